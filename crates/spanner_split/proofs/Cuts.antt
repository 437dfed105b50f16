-- A cut goes on by one part, and the open boxes go on past its events.
use Rattle.std.proofs.Common.{◌≡◌, ℕ, ◌+◌, ◌-◌, ◌≤◌, List, [], ◌∷◌, ◌++◌, take, drop, refl, sym, ◌∙◌, ap, arith}
use Rattle.std.specs.List.{fold}
use Rattle.std.proofs.lemmas.List.Sums.{fold-append}
use Rattle.std.proofs.Math.Seq.{take-add}
use Rattle.spanner_split.specs.declared.event.Event.{Event}
use Rattle.spanner_split.specs.declared.event.Part.{Part}
use Rattle.spanner_split.specs.Cut.{IsPart, IsCut, boxes_after, boxes_at}

pub cut_more : (events : List Event) (a from : ℕ) (parts : List Part) (part : Part) → IsCut events a parts from → part.from ≡ from
    → IsPart events part → IsCut events a (parts ++ part ∷ []) part.to
cut_more events a from [] part h from_is is_part = (from_is ∙ sym h, is_part, refl)
cut_more events a from (first ∷ parts) part h from_is is_part =
    (h.0, h.1, cut_more events first.to from parts part h.2 from_is is_part)

pub boxes_at_to : (events : List Event) (from to : ℕ) → from ≤ to
    → fold boxes_after (boxes_at events from) (take (to - from) (drop from events)) ≡ boxes_at events to
boxes_at_to events from to h =
    let reached : from + (to - from) ≡ to = omega arith in
    sym (fold-append boxes_after [] (take from events) (take (to - from) (drop from events)))
    ∙ ap (λ (front : List Event). fold boxes_after [] front)
    (sym (take-add from (to - from) events) ∙ ap (λ (n : ℕ). take n events) reached)
