-- Where the code ends a line is where the definition does.
use Rattle.std.proofs.Common.{◌≡◌, ℕ, zero, suc, ◌+◌, ◌-◌, ◌≤◌, ◌<◌, Bool, true, false, cond, eqb, ltb, ◌&&◌, List, length, take}
use Rattle.std.proofs.Common.{drop, inl, inr, refl, sym, ap, subst, ◌∙◌, arith, length-drop}
use Rattle.std.specs.List.{list_any}
use Rattle.std.proofs.lemmas.Bool.{ne_eqb, eq-eqb, leb-true, leb-false, le-leb, ltb-true, ltb-false, lt-ltb, le-ltb, cases_lt}
use Rattle.std.proofs.lemmas.List.{drop-drop, length-take}
use Rattle.font_table.specs.declared.fonts.Face.{Face}
use Rattle.inline_text.specs.declared.content.Piece.{Piece}
use Rattle.inline_text.specs.declared.content.Runs.{Runs}
use Rattle.inline_text.specs.Opportunities.{opportunity_at}
use Rattle.line_breaker.specs.declared.places.Place.{Place}
use Rattle.line_breaker.specs.declared.ahead.Ahead.{Ahead}
use Rattle.line_breaker.specs.Measures.{width_sum, last_space, last_hyphen}
use Rattle.line_breaker.specs.Lines.{is_content, part, stretch_len, stretch_end, content_ahead, Counts, line_width, Fits, EndsAt}
use Rattle.line_breaker.specs.Lines.{whole, last_that_fits, unbroken}
use Rattle.line_breaker.specs.Lines as lines
use Rattle.line_breaker.specs.Arrays.{start, place_behind, edge, need, place_at, opportunity_before, ahead_of, ahead_at, fits_in}
use Rattle.line_breaker.specs.Arrays.{follows, counts, is_whole, IsBest, IsFirst, IsEnd, all, last, width_between}
use Rattle.line_breaker.specs.Arrays as arrays
use Rattle.line_breaker.proofs.Between.{behind-contents, nothing, something, edge_is, need_is, hyphen_is, behind-part}
use Rattle.line_breaker.proofs.Following.{opens_is, reaches, any_fits, least_is, Fitting, none_fits, some_fits, stretch-drop}
use Rattle.line_breaker.proofs.Following.{stretch-within}

-- what was measured of a run, and a place of it where a line begins
pub record Setting (runs : Runs) (faces : List Face) (places : List Place) (opportunities : List Bool) (ahead : List Ahead)
    (from : ℕ) : Type 0 where
  pub places_are : (k : ℕ) → k ≤ length runs.pieces
      → place_at places k ≡ place_behind runs.styles faces start (take k runs.pieces)
  pub ahead_is : (k : ℕ) → k ≤ length runs.pieces → ahead_at ahead k ≡ ahead_of places opportunities k (drop k runs.pieces)
  pub opportunities_are : (k : ℕ) → 0 < k → k ≤ length runs.pieces → opportunity_before opportunities k ≡ opportunity_at runs k
  pub within : from < length runs.pieces

both : {P : Type 0} (a b : Bool) → (a && b) ≡ true → (a ≡ true → b ≡ true → P) → P
both true b e go = go refl e
both false b e go = absurd cc

end_within : (pieces : List Piece) (from : ℕ) → from ≤ length pieces → stretch_end pieces from ≤ length pieces
end_within pieces from le = omega (arith, stretch-within (drop from pieces), length-drop from pieces)

-- a place of the stretch has the same end
same_end : (pieces : List Piece) (from at : ℕ) → from ≤ at → at < stretch_end pieces from
    → stretch_end pieces at ≡ stretch_end pieces from
same_end pieces from at le lt =
    let j : from + (at - from) ≡ at = omega arith in
    let h = stretch-drop (drop from pieces) (at - from) (omega (arith, lt)) in
    let same : stretch_len (drop (at - from) (drop from pieces)) ≡ stretch_len (drop at pieces) =
    ap stretch_len (drop-drop (at - from) from pieces) ∙ ap (λ (n : ℕ). stretch_len (drop n pieces)) j in
    omega (arith, h, same)

-- ---- places as seen from the line's begin

place_is : (runs : Runs) (faces : List Face) (places : List Place) (opportunities : List Bool) (ahead : List Ahead) (from k : ℕ)
    → Setting runs faces places opportunities ahead from → from ≤ k → k ≤ length runs.pieces
    → place_at places k ≡ place_behind runs.styles faces (place_at places from) (part runs.pieces from k)
place_is runs faces places opportunities ahead from k s le within =
    s.places_are k within ∙ behind-part runs.styles faces runs.pieces from k le
    ∙ ap (λ (p : Place). place_behind runs.styles faces p (part runs.pieces from k))
    (sym (s.places_are from (let w = s.within in omega (arith, w))))

pub follows_is : (runs : Runs) (faces : List Face) (places : List Place) (opportunities : List Bool) (ahead : List Ahead)
    (from k : ℕ) → Setting runs faces places opportunities ahead from → from ≤ k → k ≤ length runs.pieces
    → follows places from k ≡ list_any is_content (part runs.pieces from k)
follows_is runs faces places opportunities ahead from k s le within =
    ap (λ (p : Place). ltb (place_at places from).contents p.contents)
    (place_is runs faces places opportunities ahead from k s le within)
    ∙ by_content (list_any is_content (part runs.pieces from k)) refl
  where
    by_content : (b : Bool) → list_any is_content (part runs.pieces from k) ≡ b
        → ltb (place_at places from).contents
        (place_behind runs.styles faces (place_at places from) (part runs.pieces from k)).contents
        ≡ list_any is_content (part runs.pieces from k)
    by_content true some = lt-ltb _ _
        ((something runs.styles faces (place_at places from) (part runs.pieces from k) some).contents) ∙ sym some
    by_content false none = le-ltb _ _
        (let same = (nothing runs.styles faces (place_at places from) (part runs.pieces from k) none).contents
        in omega (arith, same)) ∙ sym none

opens_at : (runs : Runs) (faces : List Face) (places : List Place) (opportunities : List Bool) (ahead : List Ahead) (from k : ℕ)
    → Setting runs faces places opportunities ahead from → from < k → k ≤ length runs.pieces
    → (ahead_at ahead k).opens ≡ (opportunity_at runs k && content_ahead (drop k runs.pieces))
opens_at runs faces places opportunities ahead from k s lt within =
    ap (λ (a : Ahead). a.opens) (s.ahead_is k within) ∙ opens_is places opportunities k (drop k runs.pieces)
    ∙ ap (λ (b : Bool). b && content_ahead (drop k runs.pieces)) (s.opportunities_are k (omega (arith, lt)) within)

-- what counts for the code counts
counts_true : (runs : Runs) (faces : List Face) (places : List Place) (opportunities : List Bool) (ahead : List Ahead)
    (from k : ℕ) → Setting runs faces places opportunities ahead from → from < k → k < stretch_end runs.pieces from
    → counts places ahead from k ≡ true → Counts runs from k
counts_true runs faces places opportunities ahead from k s lt before e =
    let within : k ≤ length runs.pieces = let w = s.within
    in omega (arith, before, end_within runs.pieces from (omega (arith, w))) in
    both (ahead_at ahead k).opens (follows places from k) e λ opens content.
    both (opportunity_at runs k) (content_ahead (drop k runs.pieces))
    (sym (opens_at runs faces places opportunities ahead from k s lt within) ∙ opens) λ is_opportunity after.
    record {
      behind = lt;
      before_end = before;
      opportunity = is_opportunity;
      content_before = sym (follows_is runs faces places opportunities ahead from k s (omega (arith, lt)) within) ∙ content;
      content_after = after;
    }

counts_again : (runs : Runs) (faces : List Face) (places : List Place) (opportunities : List Bool) (ahead : List Ahead)
    (from k : ℕ) → Setting runs faces places opportunities ahead from → Counts runs from k
    → (follows places from k ≡ true) × (counts places ahead from k ≡ true)
counts_again runs faces places opportunities ahead from k s h =
    let within : k ≤ length runs.pieces = let w = s.within in let b = h.before_end
    in omega (arith, b, end_within runs.pieces from (omega (arith, w))) in
    let lt = h.behind in
    let content : follows places from k ≡ true =
    follows_is runs faces places opportunities ahead from k s (omega (arith, lt)) within ∙ h.content_before in
    let opens : (ahead_at ahead k).opens ≡ true = opens_at runs faces places opportunities ahead from k s lt within
    ∙ rw (h.opportunity, h.content_after) refl in
    (content, rw (opens, content) refl)

-- how far a line reaches is its width
reaches_is : (runs : Runs) (faces : List Face) (places : List Place) (opportunities : List Bool) (ahead : List Ahead) (from k : ℕ)
    → Setting runs faces places opportunities ahead from → from < k → k < stretch_end runs.pieces from
    → list_any is_content (part runs.pieces from k) ≡ true
    → need (place_at places k) - (place_at places from).before ≡ line_width runs faces from k
reaches_is runs faces places opportunities ahead from k s lt before content =
    let within : k ≤ length runs.pieces = let w = s.within
    in omega (arith, before, end_within runs.pieces from (omega (arith, w))) in
    let inner : eqb k (stretch_end runs.pieces from) ≡ false =
    ne_eqb k (stretch_end runs.pieces from) (λ same. omega (arith, same, before)) in
    let ys = part runs.pieces from k in
    ap (λ (p : Place). need p - (place_at places from).before)
    (place_is runs faces places opportunities ahead from k s (omega (arith, lt)) within)
    ∙ need_is runs.styles faces (place_at places from) ys content
    ∙ ap (λ (b : Bool). width_sum runs.styles faces ys - last_space runs.styles faces 0 ys + cond b 0
    (last_hyphen runs.styles faces 0 ys)) (sym inner)

whole_is : (runs : Runs) (faces : List Face) (places : List Place) (opportunities : List Bool) (ahead : List Ahead) (from : ℕ)
    → Setting runs faces places opportunities ahead from
    → edge (place_at places (stretch_end runs.pieces from)) - (place_at places from).before
    ≡ line_width runs faces from (stretch_end runs.pieces from)
whole_is runs faces places opportunities ahead from s =
    let end = stretch_end runs.pieces from in
    let within : end ≤ length runs.pieces = let w = s.within in end_within runs.pieces from (omega (arith, w)) in
    let ys = part runs.pieces from end in
    ap (λ (p : Place). edge p - (place_at places from).before)
    (place_is runs faces places opportunities ahead from end s (omega arith) within)
    ∙ edge_is runs.styles faces (place_at places from) ys
    ∙ plus_none (width_sum runs.styles faces ys - last_space runs.styles faces 0 ys) (last_hyphen runs.styles faces 0 ys)
    (eqb end end) (eq-eqb end end refl)
  where
    plus_none : (n m : ℕ) (b : Bool) → b ≡ true → n ≡ n + cond b 0 m
    plus_none n m true e = omega arith
    plus_none n m false e = absurd cc

-- ---- beyond the best place nothing fits

abbrev pub FitsAt : Runs → List Place → List Bool → ℕ → ℕ → ℕ → Type 0
FitsAt runs places opportunities base width k = (opportunity_before opportunities k ≡ true)
    × (content_ahead (drop k runs.pieces) ≡ true) × (reaches places base width k ≡ true)

beyond : (runs : Runs) (faces : List Face) (places : List Place) (opportunities : List Bool) (ahead : List Ahead)
    (from base width best k : ℕ) → Setting runs faces places opportunities ahead from
    → IsBest ahead from (stretch_end runs.pieces from) base width best → best < k → k < stretch_end runs.pieces from
    → FitsAt runs places opportunities base width k → ⊥
beyond runs faces places opportunities ahead from base width best k s h lt before f =
    let low = h.low in
    let next = best + 1 in
    let end = stretch_end runs.pieces from in
    let within : end ≤ length runs.pieces = let w = s.within in end_within runs.pieces from (omega (arith, w)) in
    let none : any_fits places opportunities base width next (drop next runs.pieces) ≡ false =
    sym (least_is places opportunities base width next (drop next runs.pieces))
    ∙ ap (λ (a : Ahead). fits_in base width a.least) (sym (s.ahead_is next (omega (arith, lt, before, within))))
    ∙ h.no_more (omega (arith, lt, before)) in
    let same = same_end runs.pieces from next (omega (arith, low)) (omega (arith, lt, before)) in
    let j = k - next in
    let at : next + j ≡ k = omega (arith, lt) in
    none_fits places opportunities base width next (drop next runs.pieces) j k none
    (record {
      is = sym at;
      within = omega (arith, same, before, at);
      opportunity = f.0;
      content = ap content_ahead (drop-drop j next runs.pieces) ∙ ap (λ (n : ℕ). content_ahead (drop n runs.pieces)) at ∙ f.1;
      fits = f.2;
    })

best_fits : (runs : Runs) (faces : List Face) (places : List Place) (opportunities : List Bool) (ahead : List Ahead)
    (from base width best : ℕ) → Setting runs faces places opportunities ahead from
    → IsBest ahead from (stretch_end runs.pieces from) base width best → from < best
    → FitsAt runs places opportunities base width best
best_fits runs faces places opportunities ahead from base width best s h lt =
    let high = h.high in
    let low = h.low in
    let end = stretch_end runs.pieces from in
    let within : end ≤ length runs.pieces = let w = s.within in end_within runs.pieces from (omega (arith, w)) in
    let some : any_fits places opportunities base width best (drop best runs.pieces) ≡ true =
    sym (least_is places opportunities base width best (drop best runs.pieces))
    ∙ ap (λ (a : Ahead). fits_in base width a.least) (sym (s.ahead_is best (omega (arith, high, within)))) ∙ h.fits lt in
    let found = some_fits places opportunities base width best (drop best runs.pieces) some in
    let same = same_end runs.pieces from best low high in
    by_place found.0 found.1 found.2 same
  where
    by_place : (j k : ℕ) → Fitting places opportunities base width best (drop best runs.pieces) j k
        → stretch_end runs.pieces best ≡ stretch_end runs.pieces from → FitsAt runs places opportunities base width best
    by_place zero k f same =
        let here : k ≡ best = let e = f.is in omega (arith, e) in (
          subst (λ (n : ℕ). opportunity_before opportunities n ≡ true) here f.opportunity,
          f.content,
          subst (λ (n : ℕ). reaches places base width n ≡ true) here f.fits,
        )
    by_place (suc j) k f same =
        let e = f.is in
        let inside = f.within in
        let at : best + suc j ≡ k = sym e in
        absurd (beyond runs faces places opportunities ahead from base width best k s h (omega (arith, e))
        (omega (arith, e, inside, same)) (
          f.opportunity,
          sym (ap content_ahead (drop-drop (suc j) best runs.pieces)
              ∙ ap (λ (n : ℕ). content_ahead (drop n runs.pieces)) at) ∙ f.content,
          f.fits,
        ))

-- an opportunity that counts and fits is one for the code
counted_fits : (runs : Runs) (faces : List Face) (places : List Place) (opportunities : List Bool) (ahead : List Ahead)
    (from width k : ℕ) → Setting runs faces places opportunities ahead from
    → Counts runs from k → Fits runs faces width from k → FitsAt runs places opportunities (place_at places from).before width k
counted_fits runs faces places opportunities ahead from width k s h fits =
    let lt = h.behind in
    let within : k ≤ length runs.pieces = let w = s.within in let b = h.before_end
    in omega (arith, b, end_within runs.pieces from (omega (arith, w))) in
    let reach = reaches_is runs faces places opportunities ahead from k s lt h.before_end h.content_before in
    (s.opportunities_are k (omega (arith, lt)) within ∙ h.opportunity, h.content_after, le-leb _ _ (omega (arith, reach, fits)))

-- ---- the end of a line

none_counted : (runs : Runs) (faces : List Face) (places : List Place) (opportunities : List Bool) (ahead : List Ahead)
    (from width best k : ℕ) → Setting runs faces places opportunities ahead from
    → IsBest ahead from (stretch_end runs.pieces from) (place_at places from).before width best
    → (from < best → follows places from best ≡ false) → Counts runs from k → Fits runs faces width from k → ⊥
none_counted runs faces places opportunities ahead from width best k s h unfollowed counted fits =
    elim (cases_lt best k) [
      | inl later ↦ beyond runs faces places opportunities ahead from (place_at places from).before width best k s h later
          counted.before_end (counted_fits runs faces places opportunities ahead from width k s counted fits)
      | inr earlier ↦
          let lt = counted.behind in
          let high = h.high in
          let within : best ≤ length runs.pieces = let w = s.within
          in omega (arith, high, end_within runs.pieces from (omega (arith, w))) in
          let content = ltb-true _ _ ((counts_again runs faces places opportunities ahead from k s counted).0) in
          let more = behind-contents runs.styles faces (place_behind runs.styles faces start (take k runs.pieces))
          (part runs.pieces k best) in
          let up_to : place_at places best
          ≡ place_behind runs.styles faces (place_behind runs.styles faces start (take k runs.pieces))
          (part runs.pieces k best) = s.places_are best within ∙ behind-part runs.styles faces runs.pieces k best earlier in
          let here = s.places_are k (omega (arith, earlier, within)) in
          let less = ltb-false _ _ (unfollowed (omega (arith, lt, earlier))) in
          omega (arith, content, more, less, ap (λ (p : Place). p.contents) up_to, ap (λ (p : Place). p.contents) here)
    ]

pub ends : (runs : Runs) (faces : List Face) (places : List Place) (opportunities : List Bool) (ahead : List Ahead)
    (from width to : ℕ) → Setting runs faces places opportunities ahead from
    → IsEnd places ahead from (stretch_end runs.pieces from) width to → EndsAt runs faces width from to
ends runs faces places opportunities ahead from width to s (all fits e) =
    let w = whole_is runs faces places opportunities ahead from s in
    whole e (subst (λ (n : ℕ). Fits runs faces width from n) (sym e) (omega (arith, w, leb-true _ _ fits)))
ends runs faces places opportunities ahead from width to s (last wide best lt content) =
    let w = whole_is runs faces places opportunities ahead from s in
    let f = best_fits runs faces places opportunities ahead from (place_at places from).before width to s best lt in
    let high = best.high in
    let within : to ≤ length runs.pieces = let i = s.within
    in omega (arith, high, end_within runs.pieces from (omega (arith, i))) in
    let some = sym (follows_is runs faces places opportunities ahead from to s (omega (arith, lt)) within) ∙ content in
    let reach = reaches_is runs faces places opportunities ahead from to s lt high some in
    let counted : Counts runs from to = record {
      behind = lt;
      before_end = high;
      opportunity = sym (s.opportunities_are to (omega (arith, lt)) within) ∙ f.0;
      content_before = some;
      content_after = f.1;
    } in
    last_that_fits (λ fits. omega (arith, fits, w, leb-false _ _ wide)) counted (omega (arith, reach, leb-true _ _ f.2))
    (λ k later h fits. beyond runs faces places opportunities ahead from (place_at places from).before width to k s best later
    h.before_end (counted_fits runs faces places opportunities ahead from width k s h fits))
ends runs faces places opportunities ahead from width to s (arrays.first best wide is_best unfollowed is_first) =
    let w = whole_is runs faces places opportunities ahead from s in
    let end = stretch_end runs.pieces from in
    let high = is_first.high in
    let low = is_first.low in
    elim (cases_lt to end) [
      | inl inner ↦ lines.first (λ fits. omega (arith, fits, w, leb-false _ _ wide))
          (λ k h fits. none_counted runs faces places opportunities ahead from width best k s is_best unfollowed h fits)
          (counts_true runs faces places opportunities ahead from to s low inner (is_first.found inner))
          (λ k earlier h. let e = sym (counts_again runs faces places opportunities ahead from k s h).1
          ∙ is_first.before k h.behind earlier in absurd cc)
      | inr outer ↦
          let at_end : to ≡ end = omega (arith, outer, high) in
          unbroken (λ k h. let b = h.before_end
          in let e = sym (counts_again runs faces places opportunities ahead from k s h).1
          ∙ is_first.before k h.behind (omega (arith, b, at_end)) in absurd cc) at_end
    ]

-- a line isn't empty, and ends within the run
pub to_within : (runs : Runs) (faces : List Face) (places : List Place) (ahead : List Ahead) (from end width to : ℕ) → from < end
    → IsEnd places ahead from end width to → (from < to) × (to ≤ end)
to_within runs faces places ahead from end width to lt (all fits e) = (omega (arith, e), omega (arith, e))
to_within runs faces places ahead from end width to lt (last wide best later content) =
    (later, let h = best.high in omega (arith, h))
to_within runs faces places ahead from end width to lt (arrays.first best wide is_best unfollowed is_first) =
    (is_first.low, is_first.high)

-- ---- the width of a line

pub width_is : (runs : Runs) (faces : List Face) (places : List Place) (opportunities : List Bool) (ahead : List Ahead)
    (from to : ℕ) → Setting runs faces places opportunities ahead from → from < to → to ≤ stretch_end runs.pieces from
    → width_between places from (stretch_end runs.pieces from) to ≡ line_width runs faces from to
width_is runs faces places opportunities ahead from to s lt le =
    let end = stretch_end runs.pieces from in
    let within : to ≤ length runs.pieces = let w = s.within
    in omega (arith, le, end_within runs.pieces from (omega (arith, w))) in
    let ys = part runs.pieces from to in
    let filled : 0 < length ys = omega (
      arith,
      length-take (to - from) (drop from runs.pieces),
      length-drop from runs.pieces,
      within,
      lt,
    ) in
    ap (λ (p : Place). edge p - (place_at places from).before + cond (eqb to end) 0 p.hyphen)
    (place_is runs faces places opportunities ahead from to s (omega (arith, lt)) within)
    ∙ ap (λ (n : ℕ). n + cond (eqb to end) 0 (place_behind runs.styles faces (place_at places from) ys).hyphen)
    (edge_is runs.styles faces (place_at places from) ys)
    ∙ ap (λ (n : ℕ). width_sum runs.styles faces ys - last_space runs.styles faces 0 ys + cond (eqb to end) 0 n)
    (hyphen_is runs.styles faces (place_at places from) ys filled)
