pub mod TextSteps
