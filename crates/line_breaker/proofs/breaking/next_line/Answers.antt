use Rattle.std.proofs.Common.{◌≡◌, ℕ, ◌-◌, take, drop, length, List, refl, ap, subst, ◌∙◌, arith}
use Rattle.inline_text.specs.declared.content.Piece.{Piece}
use Rattle.inline_text.specs.declared.content.RunStyle.{RunStyle}
use Rattle.line_breaker.specs.Measures.{style_of, above_of, below_of}
use Rattle.line_breaker.specs.Lines.{part, stretch_end}
use Rattle.line_breaker.specs.Arrays.{ahead_at, IsEnd, width_between}
use Rattle.line_breaker.proofs.Ends.{ends, to_within, width_is}
use Rattle.line_breaker.proofs.AllLines.{facts, setting, height_is}
use Rattle.line_breaker.proofs.breaking.next_line.Goals as goal

pub bounds-ahead-from : goal.bounds-ahead-from
bounds-ahead-from c =
    let f = facts c.args.runs.now c.args.fonts.now c.args.places.now c.args.ahead.now c.args.from c.requires.measured
    c.requires.from in omega (arith, f.ahead_len, c.requires.from)

pub line_end-to-requires-clause-begins : goal.line_end-to-requires-clause-begins
line_end-to-requires-clause-begins c =
    let f = facts c.args.runs.now c.args.fonts.now c.args.places.now c.args.ahead.now c.args.from c.requires.measured
    c.requires.from in omega (arith, f.end, f.later)

pub line_end-to-requires-clause-places : goal.line_end-to-requires-clause-places
line_end-to-requires-clause-places c =
    let f = facts c.args.runs.now c.args.fonts.now c.args.places.now c.args.ahead.now c.args.from c.requires.measured
    c.requires.from in omega (arith, f.end, f.within, f.places_len)

pub line_end-to-requires-clause-ahead : goal.line_end-to-requires-clause-ahead
line_end-to-requires-clause-ahead c =
    let f = facts c.args.runs.now c.args.fonts.now c.args.places.now c.args.ahead.now c.args.from c.requires.measured
    c.requires.from in omega (arith, f.end, f.within, f.ahead_len)

pub overflow_sub-to : goal.overflow_sub-to
overflow_sub-to c =
    let f = facts c.args.runs.now c.args.fonts.now c.args.places.now c.args.ahead.now c.args.from c.requires.measured
    c.requires.from in
    let t = to_within c.args.runs.now c.args.fonts.now c.args.places.now c.args.ahead.now c.args.from
    (ahead_at c.args.ahead.now c.args.from).end c.args.width c.line_end-to.result (omega (arith, f.end, f.later))
    c.line_end-to.ensures in
    omega (arith, t.0)

pub split_at-requires-2 : goal.split_at-requires-2
split_at-requires-2 c =
    let f = facts c.args.runs.now c.args.fonts.now c.args.places.now c.args.ahead.now c.args.from c.requires.measured
    c.requires.from in
    let t = to_within c.args.runs.now c.args.fonts.now c.args.places.now c.args.ahead.now c.args.from
    (ahead_at c.args.ahead.now c.args.from).end c.args.width c.line_end-to.result (omega (arith, f.end, f.later))
    c.line_end-to.ensures in
    let len : length c.as_slice-pieces.result.now ≡ length c.args.runs.now.pieces = ap length c.as_slice-pieces.ensures in
    omega (arith, t.0, t.1, f.end, f.within, c.split_at.ensures.back_len, len)

pub line_width-requires-clause-from : goal.line_width-requires-clause-from
line_width-requires-clause-from c =
    let f = facts c.args.runs.now c.args.fonts.now c.args.places.now c.args.ahead.now c.args.from c.requires.measured
    c.requires.from in
    omega (arith, f.places_len, c.requires.from)

pub line_width-requires-clause-to : goal.line_width-requires-clause-to
line_width-requires-clause-to c =
    let f = facts c.args.runs.now c.args.fonts.now c.args.places.now c.args.ahead.now c.args.from c.requires.measured
    c.requires.from in
    let t = to_within c.args.runs.now c.args.fonts.now c.args.places.now c.args.ahead.now c.args.from
    (ahead_at c.args.ahead.now c.args.from).end c.args.width c.line_end-to.result (omega (arith, f.end, f.later))
    c.line_end-to.ensures in
    omega (arith, t.1, f.end, f.within, f.places_len)

pub returns-clause-some : goal.returns-clause-some
returns-clause-some c =
    let f = facts c.args.runs.now c.args.fonts.now c.args.places.now c.args.ahead.now c.args.from c.requires.measured
    c.requires.from in
    let t = to_within c.args.runs.now c.args.fonts.now c.args.places.now c.args.ahead.now c.args.from
    (ahead_at c.args.ahead.now c.args.from).end c.args.width c.line_end-to.result (omega (arith, f.end, f.later))
    c.line_end-to.ensures in
    omega (arith, t.0)

pub returns-clause-line : goal.returns-clause-line
returns-clause-line c =
    let runs = c.args.runs.now in
    let faces = c.args.fonts.now in
    let places = c.args.places.now in
    let ahead = c.args.ahead.now in
    let from = c.args.from in
    let to = c.line_end-to.result in
    let f = facts runs faces places ahead from c.requires.measured c.requires.from in
    let s = setting runs faces places ahead from c.requires.measured c.requires.from in
    let opportunities = c.requires.measured.opportunities in
    let t = to_within runs faces places ahead from (ahead_at ahead from).end c.args.width to (omega (arith, f.end, f.later))
    c.line_end-to.ensures in
    let is_end : IsEnd places ahead from (stretch_end runs.pieces from) c.args.width to =
    subst (λ (n : ℕ). IsEnd places ahead from n c.args.width to) f.end c.line_end-to.ensures in
    let own : c.split_at-2.result.0.now ≡ part runs.pieces from to =
    c.split_at-2.ensures.front ∙ ap (λ (ps : List Piece). take (to - from) ps)
    (c.split_at.ensures.back ∙ ap (λ (ps : List Piece). drop from ps) c.as_slice-pieces.ensures) in
    let strut = style_of runs.styles c.args.strut in
    let same : style_of c.as_slice-styles.result.now c.args.strut ≡ strut =
    ap (λ (xs : List RunStyle). style_of xs c.args.strut) c.as_slice-styles.ensures in
    record {
      begins = refl;
      ends = ends runs faces places opportunities ahead from c.args.width to s is_end;
      is_width = c.line_width.ensures.value ∙ ap (λ (n : ℕ). width_between places from n to) f.end
          ∙ width_is runs faces places opportunities ahead from to s t.0 (omega (arith, t.1, f.end));
      is_height = height_is c.as_slice-styles.result.now runs.styles faces _ (above_of faces strut) _ (below_of faces strut)
          c.split_at-2.result.0.now (part runs.pieces from to) c.line_height.result
          c.as_slice-styles.ensures (c.extent_of-strut.ensures.above ∙ ap (above_of faces) same)
          (c.extent_of-strut.ensures.below ∙ ap (below_of faces) same) own c.line_height.ensures;
    }
