use mathlib.Core.Path.{◌∙◌}
use native.Mathlib.Omega.{arith}
use Rattle.values.proofs.Readiness.{owner_named}
use Rattle.texts.proofs.TextLines.{text_ready, text_fields, text_room, text_put}
use Rattle.texts.proofs.texts.put_text_line.Goals as goal

pub shared_of-shared-requires : goal.shared_of-shared-requires
shared_of-shared-requires c = text_fields

pub name_at-owner-requires : goal.name_at-owner-requires
name_at-owner-requires c = (omega arith, owner_named _ _ c.requires.0 text_fields)

pub text_at-text-requires : goal.text_at-text-requires
text_at-text-requires c = let ready = c.requires.0 in (omega arith, ready.short 1, text_ready _ ready)

pub put_text_record-requires : goal.put_text_record-requires
put_text_record-requires c =
    let owner = c.as_slice.ensures.value ∙ c.name_at-owner.ensures in
    let text = c.as_slice-2.ensures.value ∙ c.text_at-text.ensures in
    record { text_in_bounds = text_room _ _ _ _ owner c.shared_of-shared.ensures text _ c.requires.1; text_len_bound = c.as_slice-2.ensures.len }

pub returns : goal.returns
returns c =
    let owner = c.as_slice.ensures.value ∙ c.name_at-owner.ensures in
    let text = c.as_slice-2.ensures.value ∙ c.text_at-text.ensures in
    text_put _ _ _ _ owner c.shared_of-shared.ensures text _ _ _ c.put_text_record.ensures.put
