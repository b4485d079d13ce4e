pub mod GoodLine
