-- Asking: the refusals in their order, and the answer.
use mathlib.Core.Path.{◌≡◌, refl, ◌∙◌, sym}
use mathlib.Core.Bool.{Bool, true, false, not}
use mathlib.Core.List.{List, [], ◌∷◌, map}
use Rattle.std.specs.Prelude.{Option, Some, None}
use Prim.Native.Nat.{ℕ, ◌+◌, ◌<◌, ◌≤◌}
use native.Mathlib.Omega.{arith}
use borrow.Author.Rules.{rules}
use borrow.Author.Tests.{eq-eqb, ne_eqb, le-leb, lt-leb, not-false}
use lib.ListN.{length}
use Rattle.rules.specs.declared.replies.Outcome.{Outcome}
use Rattle.rules.specs.declared.replies.Reply.{Reply}
use Rattle.rules.specs.declared.replies.Response.{Response}
use Rattle.rules.specs.declared.replies.AskFault.{AskFault}
use Rattle.rules.specs.Lists.{pick, is_some, value_or, lower}
use Rattle.rules.specs.Names.{is_wire}
use Rattle.rules.specs.Records.{Record, lo_bytes}
use Rattle.rules.specs.Bytes.{size}
use Rattle.rules.specs.Questions.{Question, Placed, placed_from, location_of, answers}
use Rattle.rules.specs.Reading.{moment_end, is_client, decode, refusal, response_from, response_decoded, ask_response}
use Rattle.locate.specs.declared.Judged.{Judged}
use Rattle.locate.specs.Locations.{located_in, judged_lo}
use Rattle.rules.proofs.Decoding.{wire_lower}
use Rattle.reader.specs.Answers.{answered_from}
use Rattle.reader.proofs.Answering.{answer_is}

-- ---- the client

pub four : (client : List ℕ) → length client ≡ 4 → true ≡ is_client client
unfolding is_client
four client e = rw (eq-eqb _ _ e)

pub sixteen : (client : List ℕ) → length client ≡ 16 → true ≡ is_client client
unfolding is_client
sixteen client e = rw e

pub neither : (client : List ℕ) → (length client ≡ 4 → ⊥) → (length client ≡ 16 → ⊥) → false ≡ is_client client
unfolding is_client
neither client e f = rw (ne_eqb _ _ e, ne_eqb _ _ f)

pub ruleset client_laws = (rules, four, sixteen, neither)

-- ---- the judged stream

placed_back : (at : ℕ) (rs : List Record) → map (λ (p : Placed). p.rec) (placed_from at rs) ≡ rs
unfolding placed_from
placed_back at [] = refl
placed_back at (r ∷ rs) = rw (placed_back (at + size r) rs)

replied : (q : Question) (ordinal : ℕ) (rs : List Record) → is_wire q.name ≡ true
    → response_from rs q ordinal ≡ answered_from q.type (map lower q.name) (location_of q.client rs) q.moment ordinal rs
unfolding response_from answers
replied q ordinal rs w =
    rw (placed_back 0 rs) (sym (answer_is q.type (map lower q.name) (location_of q.client rs) q.moment ordinal rs (wire_lower q.name (rw w tt))))

module _ (client : List ℕ) (j : Judged) where
  located : (o : Option (List Record)) → judged_lo (Some j) ≡ located_in client o → is_some o ≡ true
  unfolding judged_lo located_in is_some
  located None e = let z : ◌≡◌ {A = ℕ} 0 1 = cc in absurd (omega arith)
  located (Some rs) e = refl

  located_here : (o : Option (List Record)) → judged_lo (Some j) ≡ located_in client o → lo_bytes j.here ≡ location_of client (value_or [] o)
  unfolding judged_lo located_in value_or
  located_here None e = let z : ◌≡◌ {A = ℕ} 0 1 = cc in absurd (omega arith)
  located_here (Some rs) e = cc

module _ (stream client : List ℕ) where
  not_whole : (q : Question) (ordinal : ℕ) → judged_lo None ≡ located_in client (decode stream) → refusal AskFault.Records ≡ response_decoded (decode stream) q ordinal
  not_whole q ordinal e = go (decode stream) e
    where
      go : (o : Option (List Record)) → judged_lo None ≡ located_in client o → refusal AskFault.Records ≡ response_decoded o q ordinal
      go None e = unfold response_decoded in refl
      go (Some rs) e = unfold judged_lo located_in in (let z : ◌≡◌ {A = ℕ} 0 1 = cc in absurd (omega arith))

  module _ (j : Judged) (e : judged_lo (Some j) ≡ located_in client (decode stream)) where
    pub judged_whole : is_some (decode stream) ≡ true
    judged_whole = located client j (decode stream) e

    whole_reply : (q : Question) (ordinal : ℕ) (r : Response) → is_wire q.name ≡ true → q.client ≡ client
        → r ≡ answered_from q.type (map lower q.name) (lo_bytes j.here) q.moment ordinal (value_or [] (decode stream)) → r ≡ response_decoded (decode stream) q ordinal
    whole_reply q ordinal r n k a = go (decode stream) e a
      where
        go : (o : Option (List Record)) → judged_lo (Some j) ≡ located_in client o
            → r ≡ answered_from q.type (map lower q.name) (lo_bytes j.here) q.moment ordinal (value_or [] o) → r ≡ response_decoded o q ordinal
        go None e a = unfold judged_lo located_in in (let z : ◌≡◌ {A = ℕ} 0 1 = cc in absurd (omega arith))
        go (Some rs) e a = unfold response_decoded in (a ∙ rw (located_here client j (Some rs) e, ← k) (unfold value_or in sym (replied q ordinal rs n)))

-- ---- the refusals

module _ (stream name client : List ℕ) (type moment ordinal : ℕ) (t : Bool) (n : t ≡ is_wire name) where
  abbrev question : Question
  question = record { name = name; type = type; client = client; moment = moment }

  pub no_name : (r : Response) → not t ≡ true → r ≡ refusal AskFault.Name → r ≡ ask_response stream question ordinal
  unfolding ask_response pick
  no_name r y e = rw (← n, y) e

  module _ (named : not t ≡ false) where
    pub no_moment : (r : Response) → 9223372036854775807 < moment → r ≡ refusal AskFault.Moment → r ≡ ask_response stream question ordinal
    unfolding ask_response moment_end pick
    no_moment r h e = rw (← n, named, le-leb 9223372036854775808 moment (omega arith)) e

    pub is_name : is_wire name ≡ true
    is_name = sym n ∙ not-false t named

    module _ (timed : moment ≤ 9223372036854775807) (u : Bool) (c : u ≡ is_client client) where
      pub no_client : (r : Response) → not u ≡ true → r ≡ refusal AskFault.Client → r ≡ ask_response stream question ordinal
      unfolding ask_response moment_end pick
      no_client r y e = rw (← n, named, lt-leb 9223372036854775808 moment (omega arith), ← c, y) e

      module _ (addressed : not u ≡ false) where
        decided : ask_response stream question ordinal ≡ response_decoded (decode stream) question ordinal
        unfolding ask_response moment_end pick
        decided = rw (← n, named, lt-leb 9223372036854775808 moment (omega arith), ← c, addressed)

        pub no_records : (r : Response) → judged_lo None ≡ located_in client (decode stream) → r ≡ refusal AskFault.Records → r ≡ ask_response stream question ordinal
        no_records r e f = f ∙ not_whole stream client question ordinal e ∙ sym decided

        pub is_answered : (j : Judged) → judged_lo (Some j) ≡ located_in client (decode stream) → (r : Response)
            → r ≡ answered_from type (map lower name) (lo_bytes j.here) moment ordinal (value_or [] (decode stream)) → r ≡ ask_response stream question ordinal
        is_answered j e r a = whole_reply stream client j e question ordinal r is_name refl a ∙ sym decided

-- a refusal's response
pub refuses : (fault : AskFault) → record { outcome = Outcome.Refused; reply = Reply.Refused fault } ≡ refusal fault
unfolding refusal
refuses fault = refl

pub ruleset refused_laws = (rules, refuses)

pub ruleset ask_laws = (rules, judged_whole, no_name, no_moment, is_name, no_client, no_records, is_answered)
