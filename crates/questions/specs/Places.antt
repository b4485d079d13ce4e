-- Where the data of a reply stand.
use Rattle.std.specs.Prelude.{ℕ, ◌+◌, ◌≤◌, List, length}
use Rattle.rules.specs.declared.replies.Reply.{Reply}

-- within the bytes that were asked
abbrev pub Inside : List ℕ → Reply → Type 0
Inside records (Reply.Found type lifetime place count) = place + count ≤ length records
Inside records Reply.NoMore = Unit {0}
Inside records (Reply.Refused fault) = Unit {0}
