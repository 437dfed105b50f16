use Rattle.std.proofs.Common.{◌≡◌, ℕ, ◌<◌, List, length, take, get_or, sym, ◌∙◌}
use Rattle.std.proofs.lemmas.Bool.{not-true, not-false}
use Rattle.std.proofs.lemmas.Grind.{get_or_default_zero}
use Rattle.std.proofs.lemmas.List.{take_all}
use Rattle.flow_data.proofs.SoundFlow.{twice, apart, seen_more}
use Rattle.flow_data.proofs.sound_boxes.are_distinct.Goals as goal

here : (xs : List ℕ) (i : ℕ) → i < length xs → get_or xs i 0 ≡ get_or xs i (get_or xs i 0)
here xs i lt = sym (get_or_default_zero xs i (get_or xs i 0) lt)

pub returns-then-not-branch : goal.returns-then-not-branch
returns-then-not-branch c =
    let i = c.loop-number.number-index in
    let xs = c.args.boxes.now in
    let lt = c.loop-number-test.true in
    let had = not-false _ (sym c.in_ok-insert.ensures.added ∙ c.if-not-branch.true) in (
      λ e. absurd cc,
      λ distinct. absurd
          (twice xs i (get_or xs i 0) lt (here xs i lt) (sym (c.loop-number.invariant.seen _) ∙ had) distinct),
    )

pub loop-number-preserved : goal.loop-number-preserved
loop-number-preserved c =
    let i = c.loop-number.number-index in
    let xs = c.args.boxes.now in
    let lt = c.loop-number-test.true in
    let lacked = not-true _ (sym c.in_ok-insert.ensures.added ∙ c.if-not-branch.false) in
    record {
      distinct = apart xs i (get_or xs i 0) lt (here xs i lt) (sym (c.loop-number.invariant.seen _) ∙ lacked)
          c.loop-number.invariant.distinct;
      seen = λ q. c.in_ok-insert.ensures.updates.0 q
          ∙ seen_more xs i (get_or xs i 0) q _ lt (here xs i lt) (c.loop-number.invariant.seen q);
    }

pub returns : goal.returns
returns c =
    let all : take c.loop-number.number-index c.args.boxes.now ≡ c.args.boxes.now = take_all _ _ c.loop-number-test.false in
    (λ e. rw all at c.loop-number.invariant.distinct, λ distinct. cc)
