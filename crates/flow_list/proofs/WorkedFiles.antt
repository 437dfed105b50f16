-- Worked cases of flow files: the flows that they say.
use Rattle.std.proofs.Common.{◌≡◌, false, true, [], ◌∷◌, Some, None, map, refl}
use Rattle.mc_base.specs.declared.level.Level.TheVariants.{Forced, L0, L1}
use Rattle.flow_text.specs.declared.line.Form.TheVariants as forms
use Rattle.flow_text.specs.Grammar.{Rest, no_more, edge, place, atom, row, line, IsRest, FlowFile, IsFlowFile, file_lines}
use Rattle.flow_text.specs.Limits.{limit_passed}
use Rattle.flow_list.specs.Data.{RowInfo, Free, Each, Margin, Solid, Wall, Start, End, Row}
use Rattle.flow_list.specs.FileFlows.{flows_of, limit_of, outer_flow}
use Rattle.flow_list.proofs.WorkedParts as parts
use Rattle.flow_list.proofs.WorkedParts.{seam, bare, flow}

-- a row in a box, between two atoms, of which the second stands after a forced break
--
--     flow 1
--     row 2 100 110 - balance
--     m 8
--     ( 0 5 90 avoid 3 4
--     s 3
--     a 20
--     | 1
--     row 2 40 50 6
--     a 10
--     | 0
--     w
--     a 10
--     end
--     s 4
--     ) 0
--     m 8
--     | F
--     m 2
--     a 30
--     end
abbrev inner_row : Rest
inner_row = atom 81 10 (place 86 L0 (edge (line 90 forms.Wall) (atom 92 10 no_more)))

abbrev behind_row : Rest
behind_row = edge (line 101 (forms.Solid 4)) (edge (line 105 (forms.End 0)) (edge (line 109 (forms.Margin 8))
    (place 113 Forced (edge (line 117 (forms.Margin 2)) (atom 121 30 no_more)))))

abbrev boxed_content : Rest
boxed_content = edge (line 31 (forms.Margin 8)) (edge (line 35 (forms.Start 0 5 90 true 3 4)) (edge (line 54 (forms.Solid 3))
    (atom 58 20 (place 63 L1 (row 67 2 40 50 6 inner_row 97 behind_row)))))

abbrev boxed : FlowFile
boxed = record {
  at = 0;
  first_at = 7;
  n = 2;
  w = 100;
  step = 110;
  available = None;
  auto = false;
  content = Some boxed_content;
  ended = 126;
}

boxed-file : IsFlowFile (file_lines boxed) boxed
boxed-file = record {
  whole = refl;
  content = ([], refl, (0 ∷ [], refl, (0 ∷ [], refl, (refl, (refl, (refl, inner, behind))))));
  numbered = (
    tt,
    (
      tt,
      (tt, (refl, (tt, (tt, (tt, (tt, (tt, (tt, (tt, (tt, (tt, (tt, (tt, (tt, (tt, (tt, (tt, (tt, tt)))))))))))))))))),
    ),
  );
  starts = (
    tt,
    (
      tt,
      (
        tt,
        (
          λ above. refl,
          (tt, (tt, (tt, (tt, (tt, (tt, (tt, (tt, (tt, (tt, (tt, (tt, (tt, (tt, (tt, (tt, tt)))))))))))))))),
        ),
      ),
    ),
  );
  ends = (
    tt,
    (
      tt,
      (
        tt,
        (
          tt,
          (
            tt,
            (tt, (tt, (tt, (tt, (tt, (tt, (tt, (tt, (tt, (λ above. refl, (tt, (tt, (tt, (tt, (tt, tt))))))))))))))),
          ),
        ),
      ),
    ),
  );
}
  where
    inner : IsRest false [] inner_row
    inner = (refl, (refl, ([], refl, (refl, (refl, refl)))))

    behind : IsRest true (0 ∷ []) behind_row
    behind = (0 ∷ [], refl, ([], refl, ([], refl, (refl, ([], refl, (refl, (refl, refl)))))))

boxed-limits : limit_of boxed ≡ None
unfolding limit_passed
boxed-limits = refl

boxed-flows : flows_of boxed ≡ record {
  flows = outer_flow
      ∷ flow (parts.atom 20 ∷ Row 1 ∷ parts.atom 30 ∷ [])
      (seam [] L0 (Margin 8 ∷ Start 0 ∷ Solid 3 ∷ []) ∷ bare L1 ∷ seam (Solid 4 ∷ End 0 ∷ Margin 8 ∷ []) Forced (Margin 2 ∷ [])
      ∷ bare L0 ∷ [])
      ∷ flow (parts.atom 10 ∷ parts.atom 10 ∷ []) (bare L0 ∷ seam [] L0 (Wall ∷ []) ∷ bare L0 ∷ [])
      ∷ [];
  rows = record { flow = 1; n = 2; w = 100; step = 110; x = 0; auto = false } ∷ record
      { flow = 2; n = 2; w = 40; step = 50; x = 6; auto = false } ∷ [];
  boxes = record { x = 5; w = 90; avoid = true; top = 3; bottom = 4 } ∷ [];
  stacks = record { flow = 0; w = 210; bound = Free } ∷ [];
}
boxed-flows = refl

-- an empty row that may use a height, and is filled column by column
abbrev empty : FlowFile
empty = record { at = 0; first_at = 7; n = 3; w = 100; step = 120; available = Some 640; auto = true; content = None; ended = 31 }

empty-flows : flows_of empty ≡ record {
  flows = outer_flow ∷ flow [] (bare L0 ∷ []) ∷ [];
  rows = record { flow = 1; n = 3; w = 100; step = 120; x = 0; auto = true } ∷ [];
  boxes = [];
  stacks = record { flow = 0; w = 340; bound = Each 640 } ∷ [];
}
empty-flows = refl

-- rows are numbered in the order of their lines: 1 and 2, which stands in it, and then 3
abbrev inside : Rest
inside = atom 76 10 (place 81 L0 (row 85 1 40 40 0 (atom 99 5 no_more) 103 no_more))

abbrev two_rows : FlowFile
two_rows = record {
  at = 0;
  first_at = 7;
  n = 1;
  w = 100;
  step = 100;
  available = None;
  auto = false;
  content = Some (row 31 2 50 50 0 inside 107 (place 111 L0 (row 115 1 60 60 0 (atom 129 10 no_more) 134 no_more)));
  ended = 138;
}

two_rows-flows : (flows_of two_rows).flows ≡ outer_flow
    ∷ flow (Row 1 ∷ Row 3 ∷ []) (bare L0 ∷ bare L0 ∷ bare L0 ∷ [])
    ∷ flow (parts.atom 10 ∷ Row 2 ∷ []) (bare L0 ∷ bare L0 ∷ bare L0 ∷ [])
    ∷ flow (parts.atom 5 ∷ []) (bare L0 ∷ bare L0 ∷ [])
    ∷ flow (parts.atom 10 ∷ []) (bare L0 ∷ bare L0 ∷ [])
    ∷ []
two_rows-flows = refl

two_rows-numbers : map (λ (r : RowInfo). r.flow) (flows_of two_rows).rows ≡ 1 ∷ 2 ∷ 3 ∷ 4 ∷ []
two_rows-numbers = refl
