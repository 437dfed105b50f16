-- Worked cases of documents: their boxes and their flows.
use Rattle.std.proofs.Common.{◌≡◌, false, true, [], ◌∷◌, Some, None, map, refl}
use Rattle.std.specs.Prelude.{List, ◌++◌, codes}
use Rattle.mc_base.specs.declared.level.Level.TheVariants.{Forced, L0, L1}
use Rattle.break_rules.specs.declared.seam.BreakValue.TheVariants as breaks
use Rattle.html_grammar.specs.Names.{same}
use Rattle.html_grammar.specs.Tree.{Forest, Nil, Element, Words}
use Rattle.flow_data.specs.declared.data.AtomKind.TheVariants.{Line, Void, Bounded}
use Rattle.flow_data.specs.declared.data.Bound.TheVariants.{Free, Left}
use Rattle.flow_data.specs.declared.data.Edge.TheVariants.{Margin, Wall, Start, End}
use Rattle.flow_data.specs.declared.data.Item.TheVariants.{Atom, Row}
use Rattle.line_breaker.specs.declared.line.Line.{Line as LineBox}
use Rattle.box_data.specs.declared.style.BoxStyle.{BoxStyle}
use Rattle.box_data.specs.declared.style.Length.TheVariants.{Units as units}
use Rattle.box_data.specs.declared.style.Display.TheVariants.{Hidden as hidden, Block as block}
use Rattle.box_data.specs.Styles.{initial}
use Rattle.box_data.specs.declared.tree.BoxKind.TheVariants.{Block as block_box, Container as container}
use Rattle.box_data.specs.BoxTree.{in_order, boxes_of, shown_from}
use Rattle.box_data.specs.DocumentFlows.{flows_of_boxes}
use Rattle.doc_laws.proofs.Worked.{seam, bare, brief, brief_of, pieces_of, sized, size}
use Rattle.box_data.specs.Widths.{placed}
use Rattle.box_data.specs.DocumentFlows.{lines_w}

-- ---- article

abbrev article-styles : List BoxStyle
article-styles =
    record initial { display = block }
    ∷ record initial { display = hidden }
    ∷ record initial { display = hidden }
    ∷ record initial { display = hidden }
    ∷ initial
    ∷ record initial { display = hidden }
    ∷ initial
    ∷ record initial { display = block }
    ∷ initial
    ∷ record initial { display = block; column_count = Some 2; column_gap = (units 1024) }
    ∷ initial
    ∷ record initial {
      display = block;
      margin = record {
        top = (units 0);
        right = (units 0);
        bottom = (units 640);
        left =
            (units 0);
      };
      span_all = true;
    }
    ∷ initial
    ∷ initial
    ∷ record initial { display = block }
    ∷ initial
    ∷ record initial { display = block }
    ∷ initial
    ∷ initial
    ∷ initial
    ∷ initial
    ∷ record initial { display = block; break_after = breaks.Column }
    ∷ initial
    ∷ record initial { display = block }
    ∷ initial
    ∷ initial
    ∷ initial
    ∷ []

abbrev article-tree : Forest
article-tree = Element 16 (codes "html") [] (Element 33 (codes "head") []
    (Element 40 (codes "meta") [] Nil (Element 63 (codes "title") [] (Words 70 (codes "Rivers") Nil)
    (Element 85 (codes "style") [] (Words 92 ((10 ∷ []) ++ codes "body { margin: 0; font-size: 16px; line-height: 20px }"
    ++ (10 ∷ []) ++ codes "article { column-count: 2; column-gap: 16px }" ++ (10 ∷ [])
    ++ codes "h1 { column-span: all; margin: 0 0 10px; font-size: 16px; break-after: avoid-page }" ++ (10 ∷ [])
    ++ codes "p { margin: 0 }" ++ (10 ∷ [])) Nil) Nil))) (Element 311 (codes "body") []
    (Words 317 ((10 ∷ [])) (Element 318 (codes "article") [] (Words 327 ((10 ∷ []))
    (Element 328 (codes "h1") [] (Words 332 (codes "Rivers") Nil)
    (Words 343 ((10 ∷ [])) (Element 344 (codes "p") [] (Words 347
    (codes "aaaa bbbb cccc dddd eeee ffff" ++ (10 ∷ [])) Nil) (Element 377 (codes "p") []
    (Words 380 (codes "gggg ") (Element 385 (codes "b") [] (Words 388 (codes "hhhh") Nil)
    (Words 396 ((10 ∷ [])) Nil))) (Element 397 (codes "div") [] Nil
    (Words 436 ((10 ∷ [])) (Element 437 (codes "p") [] (Element 440 (codes "img")
    (size (codes "width") (codes "40") ∷ size (codes "height")
    (codes "30") ∷ []) Nil (Words 487 ((10 ∷ [])) Nil)) Nil))))))))
    (Words 498 ((10 ∷ [])) Nil))) Nil)) Nil

abbrev article-lines : List (List LineBox)
article-lines = [] ∷ [] ∷ [] ∷ ((sized 3072 1280) ∷ []) ∷ ((sized 4608 1280) ∷ (sized 4608 1280) ∷ (sized 4608 1280) ∷ [])
    ∷ ((sized 4608 1280) ∷ []) ∷ [] ∷ ((sized 2560 2253) ∷ []) ∷ []

article-boxes : map brief_of (in_order (boxes_of article-styles article-tree))
    ≡ brief 0 block_box ∷ brief 7 block_box ∷ brief 9 container ∷ brief 11 block_box ∷ brief 14 block_box ∷ brief 16 block_box
    ∷ brief 21 block_box ∷ brief 23 block_box ∷ []
unfolding same
article-boxes = refl

article-shown : shown_from article-styles 0 article-tree ≡ 0 ∷ 7 ∷ 9 ∷ 11 ∷ 14 ∷ 16 ∷ 18 ∷ 21 ∷ 23 ∷ 24 ∷ []
article-shown = refl

article-pieces : map pieces_of (in_order (boxes_of article-styles article-tree)) ≡ 0 ∷ 0 ∷ 0 ∷ 6 ∷ 29 ∷ 9 ∷ 0 ∷ 1 ∷ []
unfolding same
article-pieces = refl

article-widths : map lines_w (in_order (placed article-styles article-lines 11264 (boxes_of article-styles article-tree))) ≡ 11264
    ∷ 11264 ∷ 5120 ∷ 11264 ∷ 5120 ∷ 5120 ∷ 5120 ∷ 5120 ∷ []
unfolding same
article-widths = refl

article-flows : flows_of_boxes article-styles article-lines 11264 None (boxes_of article-styles article-tree) ≡ record {
  flows = record {
    opened = [];
    items = Atom 1280 (Line 3 0 0 3072) ∷ Row 0 ∷ [];
    seams = seam ([]) L0 (Start 0 ∷ Wall ∷ Start 1 ∷ Start 2 ∷ Wall ∷ Start 3 ∷ Wall ∷ []) ∷ seam
        (Wall ∷ End 3 ∷ Margin 640 ∷ []) L0 ([]) ∷ seam (Wall ∷ End 2 ∷ End 1 ∷ Wall ∷ End 0 ∷ []) L0 ([]) ∷ [];
  } ∷ record {
    opened = [];
    items = Atom 1280 (Line 4 0 0 4608) ∷ Atom 1280 (Line 4 1 0 4608) ∷ Atom 1280 (Line 4 2 0 4608) ∷ Atom 1280
        (Line 5 0 0 4608) ∷ Atom 0 (Void 6 0 5120) ∷ Atom 2253 (Line 7 0 0 2560) ∷ [];
    seams = seam ([]) L0 (Start 4 ∷ []) ∷ bare L1 ∷ bare L1 ∷ seam (End 4 ∷ []) L0 (Start 5 ∷ []) ∷ seam (End 5 ∷ []) L0
        (Start 6 ∷ []) ∷ seam (End 6 ∷ []) Forced (Start 7 ∷ []) ∷ seam (End 7 ∷ []) L0 ([]) ∷ [];
  } ∷ [];
  rows = record { flow = 1; n = 2; w = 5120; step = 6144; x = 0; auto = false } ∷ [];
  boxes = record { x = 0; w = 11264; avoid = false; top = 0; bottom = 0 } ∷ record {
    x = 0;
    w = 11264;
    avoid = false;
    top = 0;
    bottom = 0;
  } ∷ record { x = 0; w = 11264; avoid = false; top = 0; bottom = 0 } ∷ record {
    x = 0;
    w = 11264;
    avoid = false;
    top = 0;
    bottom = 0;
  } ∷ record { x = 0; w = 5120; avoid = false; top = 0; bottom = 0 } ∷ record {
    x = 0;
    w = 5120;
    avoid = false;
    top = 0;
    bottom = 0;
  } ∷ record { x = 0; w = 5120; avoid = false; top = 0; bottom = 0 } ∷ record {
    x =
        0;
    w = 5120;
    avoid = false;
    top = 0;
    bottom = 0;
  } ∷ [];
  stacks = record { flow = 0; w = 11264; bound = Free } ∷ [];
}
unfolding same
article-flows = refl

-- ---- paragraph

abbrev paragraph-styles : List BoxStyle
paragraph-styles =
    record initial { display = block }
    ∷ record initial { display = hidden }
    ∷ record initial { display = block }
    ∷ record initial { display = block; column_count = Some 2; column_gap = (units 1024) }
    ∷ record initial { display = block }
    ∷ initial
    ∷ []

abbrev paragraph-tree : Forest
paragraph-tree = Element 0 (codes "html") [] (Element 0 (codes "head") [] Nil
    (Element 0 (codes "body") []
    (Element 40 (codes "div") []
    (Element 84 (codes "p") [] (Words 111 (codes "aaaa bbbb cccc dddd eeee ffff gggg hhhh") Nil) Nil) Nil) Nil)) Nil

abbrev paragraph-lines : List (List LineBox)
paragraph-lines = [] ∷ [] ∷ [] ∷ ((sized 4608 1280) ∷ (sized 4608 1280) ∷ (sized 4608 1280) ∷ (sized 4608 1280) ∷ []) ∷ []

paragraph-boxes : map brief_of (in_order (boxes_of paragraph-styles paragraph-tree))
    ≡ brief 0 block_box ∷ brief 2 block_box ∷ brief 3 container ∷ brief 4 block_box ∷ []
unfolding same
paragraph-boxes = refl

paragraph-shown : shown_from paragraph-styles 0 paragraph-tree ≡ 0 ∷ 2 ∷ 3 ∷ 4 ∷ []
paragraph-shown = refl

paragraph-pieces : map pieces_of (in_order (boxes_of paragraph-styles paragraph-tree)) ≡ 0 ∷ 0 ∷ 0 ∷ 39 ∷ []
unfolding same
paragraph-pieces = refl

paragraph-widths : map lines_w
    (in_order (placed paragraph-styles paragraph-lines 11264 (boxes_of paragraph-styles paragraph-tree))) ≡ 11264 ∷ 11264 ∷ 5120
    ∷ 5120 ∷ []
unfolding same
paragraph-widths = refl

paragraph-flows : flows_of_boxes paragraph-styles paragraph-lines 11264 None (boxes_of paragraph-styles paragraph-tree) ≡ record {
  flows = record {
    opened = [];
    items = Row 0 ∷ [];
    seams = seam ([]) L0 (Start 0 ∷ Wall ∷ Start 1 ∷ Start 2 ∷ Wall ∷ []) ∷ seam (Wall ∷ End 2 ∷ End 1 ∷ Wall ∷ End 0 ∷ []) L0
        ([]) ∷ [];
  } ∷ record {
    opened = [];
    items = Atom 1280 (Line 3 0 0 4608) ∷ Atom 1280 (Line 3 1 0 4608) ∷ Atom 1280 (Line 3 2 0 4608) ∷ Atom 1280
        (Line 3 3 0 4608) ∷ [];
    seams = seam ([]) L0 (Start 3 ∷ []) ∷ bare L1 ∷ bare L0 ∷ bare L1 ∷ seam (End 3 ∷ []) L0 ([]) ∷ [];
  } ∷ [];
  rows = record { flow = 1; n = 2; w = 5120; step = 6144; x = 0; auto = false } ∷ [];
  boxes = record { x = 0; w = 11264; avoid = false; top = 0; bottom = 0 } ∷ record {
    x = 0;
    w = 11264;
    avoid = false;
    top = 0;
    bottom = 0;
  } ∷ record { x = 0; w = 11264; avoid = false; top = 0; bottom = 0 } ∷ record {
    x = 0;
    w = 5120;
    avoid = false;
    top = 0;
    bottom = 0;
  } ∷ [];
  stacks = record { flow = 0; w = 11264; bound = Free } ∷ [];
}
unfolding same
paragraph-flows = refl

-- ---- bounded

abbrev bounded-styles : List BoxStyle
bounded-styles =
    record initial { display = block }
    ∷ record initial { display = hidden }
    ∷ record initial { display = block }
    ∷ record initial { display = block; height = (units 1920); column_count = Some 2; column_gap = (units 0); fill_auto = true }
    ∷ initial
    ∷ []

abbrev bounded-tree : Forest
bounded-tree = Element 0 (codes "html") [] (Element 0 (codes "head") [] Nil
    (Element 0 (codes "body") []
    (Element 40 (codes "div") [] (Words 110 (codes "aaaaaaaaaa bbbbbbbbbb cccccccccc") Nil) Nil) Nil)) Nil

abbrev bounded-lines : List (List LineBox)
bounded-lines = [] ∷ [] ∷ ((sized 5120 1280) ∷ (sized 5120 1280) ∷ (sized 5120 1280) ∷ []) ∷ []

bounded-boxes : map brief_of (in_order (boxes_of bounded-styles bounded-tree))
    ≡ brief 0 block_box ∷ brief 2 block_box ∷ brief 3 container ∷ []
unfolding same
bounded-boxes = refl

bounded-shown : shown_from bounded-styles 0 bounded-tree ≡ 0 ∷ 2 ∷ 3 ∷ []
bounded-shown = refl

bounded-pieces : map pieces_of (in_order (boxes_of bounded-styles bounded-tree)) ≡ 0 ∷ 0 ∷ 32 ∷ []
unfolding same
bounded-pieces = refl

bounded-widths : map lines_w (in_order (placed bounded-styles bounded-lines 10240 (boxes_of bounded-styles bounded-tree))) ≡ 10240
    ∷ 10240 ∷ 5120 ∷ []
unfolding same
bounded-widths = refl

bounded-flows : flows_of_boxes bounded-styles bounded-lines 10240 None (boxes_of bounded-styles bounded-tree) ≡ record {
  flows = record {
    opened = [];
    items = Atom 1920 (Bounded 2 1 0) ∷ [];
    seams = seam ([]) L0 (Start 0 ∷ Wall ∷ Start 1 ∷ Start 2 ∷ Wall ∷ []) ∷ seam (Wall ∷ End 2 ∷ End 1 ∷ Wall ∷ End 0 ∷ []) L0
        ([]) ∷ [];
  } ∷ record {
    opened = [];
    items = Row 0 ∷ [];
    seams = bare L0 ∷ bare L0 ∷ [];
  } ∷ record {
    opened = [];
    items = Atom 1280 (Line 2 0 0 5120) ∷ Atom 1280 (Line 2 1 0 5120) ∷ Atom 1280 (Line 2 2 0 5120) ∷ [];
    seams = bare L0 ∷ bare L1 ∷ bare L1 ∷ bare L0 ∷ [];
  } ∷ [];
  rows = record { flow = 2; n = 2; w = 5120; step = 5120; x = 0; auto = true } ∷ [];
  boxes = record { x = 0; w = 10240; avoid = false; top = 0; bottom = 0 } ∷ record {
    x = 0;
    w = 10240;
    avoid = false;
    top = 0;
    bottom = 0;
  } ∷ record { x = 0; w = 10240; avoid = false; top = 0; bottom = 0 } ∷ [];
  stacks = record { flow = 0; w = 10240; bound = Free } ∷ record { flow = 1; w = 10240; bound = Left 1920 } ∷ [];
}
unfolding same
bounded-flows = refl
