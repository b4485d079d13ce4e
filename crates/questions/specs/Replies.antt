-- What a line of text is answered.
use Rattle.std.specs.Prelude.{ℕ, List, Option, option_map}
use Rattle.rules.specs.Questions.{Question}
use Rattle.rules.specs.Reading.{ask_response}
use Rattle.rules.specs.declared.replies.Response.{Response}

-- none where it is no question
abbrev pub line_reply : List ℕ → Option Question → ℕ → Option Response
line_reply records question ordinal = option_map (λ q. ask_response records q ordinal) question
