use Rattle.stream.proofs.Heads.{key_beyond, data_beyond, is_whole, head_laws}
use Rattle.stream.proofs.head_of.Goals as goal

pub returns-then-n-lt8 : goal.returns-then-n-lt8
returns-then-n-lt8 c = search head_laws

pub returns-then-rest-key : goal.returns-then-rest-key
returns-then-rest-key c = key_beyond _ _ c.get_le-key.ensures c.if-n-lt8.false c.if-rest-key.true

pub returns-then-rest-key-2 : goal.returns-then-rest-key-2
returns-then-rest-key-2 c =
    data_beyond _ _ c.get_le-key.ensures c.if-n-lt8.false _ c.get_le-rdata.ensures c.if-rest-key.false c.if-rest-key-2.true

pub returns : goal.returns
returns c = is_whole _ _ c.get_le-key.ensures c.if-n-lt8.false _ c.get_le-rdata.ensures c.if-rest-key.false c.if-rest-key-2.false
