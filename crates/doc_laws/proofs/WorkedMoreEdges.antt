-- Worked cases of documents: their boxes and their flows.
use Rattle.std.proofs.Common.{◌≡◌, false, true, [], ◌∷◌, Some, None, map, refl}
use Rattle.std.specs.Prelude.{List, codes}
use Rattle.mc_base.specs.declared.level.Level.TheVariants.{Forced, L0, L2}
use Rattle.break_rules.specs.declared.seam.BreakValue.TheVariants as breaks
use Rattle.html_grammar.specs.Names.{same}
use Rattle.html_grammar.specs.Tree.{Forest, Nil, Element, Words}
use Rattle.flow_data.specs.declared.data.AtomKind.TheVariants.{Line, Void, Bounded}
use Rattle.flow_data.specs.declared.data.Bound.TheVariants.{Free, Each, Left}
use Rattle.flow_data.specs.declared.data.Edge.TheVariants.{Margin, Solid, Wall, Start, End}
use Rattle.flow_data.specs.declared.data.Item.TheVariants.{Atom, Row}
use Rattle.line_breaker.specs.declared.line.Line.{Line as LineBox}
use Rattle.box_data.specs.declared.style.BoxStyle.{BoxStyle}
use Rattle.box_data.specs.declared.style.Length.TheVariants.{Auto as auto, Units as units, Percent as percent}
use Rattle.box_data.specs.declared.style.Display.TheVariants.{Hidden as hidden, Block as block}
use Rattle.box_data.specs.declared.style.Align.TheVariants.{Right as right}
use Rattle.box_data.specs.Styles.{initial}
use Rattle.box_data.specs.declared.tree.BoxKind.TheVariants.{Block as block_box, Anonymous as anonymous, Container as container}
use Rattle.box_data.specs.BoxTree.{in_order, boxes_of, shown_from}
use Rattle.box_data.specs.DocumentFlows.{flows_of_boxes}
use Rattle.doc_laws.proofs.Worked.{seam, bare, brief, brief_of, sized}

-- ---- edge5

abbrev edge5-styles : List BoxStyle
edge5-styles =
    record initial { display = block }
    ∷ record initial { display = hidden }
    ∷ record initial {
      display = block;
      margin = record {
        top = (units 512);
        right = (units 512);
        bottom = (units 512);
        left =
            (units 512);
      };
    }
    ∷ record initial { display = block; align = right; column_count = Some 2 }
    ∷ initial
    ∷ record initial { align = right }
    ∷ initial
    ∷ initial
    ∷ record initial { align = right }
    ∷ initial
    ∷ record initial { display = block; column_count = Some 2 }
    ∷ record initial { display = block; span_all = true }
    ∷ []

abbrev edge5-tree : Forest
edge5-tree = Element 0 (codes "html") [] (Element 0 (codes "head") [] Nil
    (Element 0 (codes "body") []
    (Element 0 (codes "div") []
    (Words 45 (codes "aa ") (Element 48 (codes "b") [] (Words 51 (codes "bb") Nil)
    (Words 57 (codes " ") (Element 58 (codes "wbr") [] Nil (Words 63 (codes " ") Nil)))))
    (Element 70 (codes "div") [] (Element 98 (codes "div") [] Nil Nil) Nil)) Nil)) Nil

abbrev edge5-lines : List (List LineBox)
edge5-lines =
    []
    ∷ []
    ∷ (sized 2560 1228 ∷ [])
    ∷ []
    ∷ []
    ∷ []

edge5-boxes : map brief_of (in_order (boxes_of edge5-styles edge5-tree)) ≡ brief 0 block_box ∷ brief 2 block_box
    ∷ brief 3 container ∷ brief 10 container ∷ brief 11 block_box ∷ []
unfolding same
edge5-boxes = refl

edge5-shown : shown_from edge5-styles 0 edge5-tree ≡ 0 ∷ 2 ∷ 3 ∷ 5 ∷ 8 ∷ 10 ∷ 11 ∷ []
edge5-shown = refl

edge5-flows : flows_of_boxes edge5-styles edge5-lines 11264 None (boxes_of edge5-styles edge5-tree) ≡ record {
  flows = record {
    opened = [];
    items = Row 0 ∷ Atom 0 (Void 4 512 10240) ∷ [];
    seams = seam ([]) L0 (Start 0 ∷ Wall ∷ Margin 512 ∷ Start 1 ∷ Start 2 ∷ Wall ∷ [])
        ∷ seam (Wall ∷ End 2 ∷ []) L0 (Start 3 ∷ Wall ∷ Start 4 ∷ Wall ∷ [])
        ∷ seam (Wall ∷ End 4 ∷ Wall ∷ End 3 ∷ End 1 ∷ Margin 512 ∷ Wall ∷ End 0 ∷ []) L0 ([]) ∷ [];
  } ∷ record {
    opened = [];
    items = Atom 1228 (Line 2 0 2048 2560) ∷ [];
    seams = bare L0 ∷ bare L0 ∷ [];
  } ∷ [];
  rows = record { flow = 1; n = 2; w = 4608; step = 5632; x = 512; auto = false } ∷ [];
  boxes = record { x = 0; w = 11264; avoid = false; top = 0; bottom = 0 } ∷ record {
    x = 512;
    w = 10240;
    avoid = false;
    top = 0;
    bottom = 0;
  } ∷ record { x = 512; w = 10240; avoid = false; top = 0; bottom = 0 } ∷ record {
    x = 512;
    w = 10240;
    avoid =
        false;
    top = 0;
    bottom = 0;
  } ∷ record { x = 512; w = 10240; avoid = false; top = 0; bottom = 0 } ∷ [];
  stacks = record { flow = 0; w = 11264; bound = Free } ∷ [];
}
unfolding same
edge5-flows = refl

-- ---- edge6

abbrev edge6-styles : List BoxStyle
edge6-styles =
    record initial { display = block }
    ∷ record initial { display = hidden }
    ∷ record initial {
      display = block;
      margin = record {
        top = (units 512);
        right = (units 512);
        bottom = (units 512);
        left =
            (units 512);
      };
    }
    ∷ record initial { display = block; column_count = Some 2; fill_auto = true }
    ∷ record initial {
      display = block;
      border = record { top = 128; right = 128; bottom = 128; left = 128 };
      avoid_inside = true;
      cloned = true;
    }
    ∷ record initial {
      display = block;
      margin = record {
        top = (units 1024);
        right = (units 0);
        bottom = (units 1024);
        left =
            (units 0);
      };
    }
    ∷ initial
    ∷ record initial {
      display = block;
      margin = record {
        top = (units 1024);
        right = (units 0);
        bottom = (units 1024);
        left =
            (units 0);
      };
      span_all = true;
    }
    ∷ initial
    ∷ record initial {
      display = block;
      margin = record {
        top = (units 1024);
        right = (units 0);
        bottom = (units 1024);
        left =
            (units 0);
      };
    }
    ∷ initial
    ∷ record initial {
      display = block;
      padding = record {
        top = (units 320);
        right = (units 320);
        bottom = (units 320);
        left =
            (units 320);
      };
      height = (units 3200);
      border_box = true;
      column_count = Some 2;
      fill_auto = true;
    }
    ∷ []

abbrev edge6-tree : Forest
edge6-tree = Element 0 (codes "html") [] (Element 0 (codes "head") [] Nil
    (Element 0 (codes "body") []
    (Element 0 (codes "div") []
    (Element 45 (codes "div") [] (Element 121 (codes "p") [] (Words 124 (codes "aa bb cc dd") Nil)
    (Element 135 (codes "p") [] (Words 162 (codes "e") Nil) (Element 163 (codes "p") []
    (Words 166 (codes "f") Nil) Nil))) (Element 173 (codes "div") [] Nil Nil)) Nil) Nil)) Nil

abbrev edge6-lines : List (List LineBox)
edge6-lines =
    []
    ∷ []
    ∷ []
    ∷ []
    ∷ (sized 4096 1228 ∷ sized 1024 1228 ∷ [])
    ∷ (sized 512 1228 ∷ [])
    ∷ (sized 512 1228 ∷ [])
    ∷ []
    ∷ []

edge6-boxes : map brief_of (in_order (boxes_of edge6-styles edge6-tree)) ≡ brief 0 block_box ∷ brief 2 block_box
    ∷ brief 3 container ∷ brief 4 block_box ∷ brief 5 block_box ∷ brief 7 block_box ∷ brief 9 block_box ∷ brief 11 container ∷ []
unfolding same
edge6-boxes = refl

edge6-shown : shown_from edge6-styles 0 edge6-tree ≡ 0 ∷ 2 ∷ 3 ∷ 4 ∷ 5 ∷ 7 ∷ 9 ∷ 11 ∷ []
edge6-shown = refl

edge6-flows : flows_of_boxes edge6-styles edge6-lines 11264 (Some 2000) (boxes_of edge6-styles edge6-tree) ≡ record {
  flows = record {
    opened = [];
    items = Row 0 ∷ Atom 1228 (Line 5 0 512 512) ∷ Row 1 ∷ [];
    seams = seam ([]) L0 (Start 0 ∷ Wall ∷ Margin 512 ∷ Start 1 ∷ Start 2 ∷ Wall ∷ [])
        ∷ seam ([]) L0 (Margin 1024 ∷ Start 5 ∷ Wall ∷ []) ∷ seam (Wall ∷ End 5 ∷ Margin 1024 ∷ []) L0 ([])
        ∷ seam (Wall ∷ End 2 ∷ End 1 ∷ Margin 512 ∷ Wall ∷ End 0 ∷ []) L0 ([]) ∷ [];
  } ∷ record {
    opened = [];
    items = Atom 1228 (Line 4 0 128 4096) ∷ Atom 1228 (Line 4 1 128 1024) ∷ [];
    seams = seam ([]) L0 (Start 3 ∷ Solid 128 ∷ Margin 1024 ∷ Start 4 ∷ []) ∷ bare L2 ∷ seam (End 4 ∷ Margin 1024 ∷ []) L0 ([])
        ∷ [];
  } ∷ record {
    opened = 3 ∷ [];
    items = Atom 1228 (Line 6 0 128 512) ∷ Atom 2560 (Bounded 7 1 320) ∷ [];
    seams = seam ([]) L0 (Margin 1024 ∷ Start 6 ∷ []) ∷ seam (End 6 ∷ Margin 1024 ∷ Solid 128 ∷ End 3 ∷ []) L0
        (Start 7 ∷ Solid 320 ∷ Wall ∷ []) ∷ seam (Wall ∷ Solid 320 ∷ End 7 ∷ []) L0 ([]) ∷ [];
  } ∷ record {
    opened = [];
    items = Atom 0 (Void 7 0 3968) ∷ [];
    seams = bare L0 ∷ bare L0 ∷ [];
  } ∷ [];
  rows = record { flow = 1; n = 2; w = 4608; step = 5632; x = 512; auto = false } ∷ record {
    flow = 2;
    n = 2;
    w = 4608;
    step =
        5632;
    x = 512;
    auto = true;
  } ∷ [];
  boxes = record { x = 0; w = 11264; avoid = false; top = 0; bottom = 0 } ∷ record {
    x = 512;
    w = 10240;
    avoid = false;
    top = 0;
    bottom = 0;
  } ∷ record { x = 512; w = 10240; avoid = false; top = 0; bottom = 0 } ∷ record {
    x = 0;
    w = 4608;
    avoid = true;
    top = 128;
    bottom = 128;
  } ∷ record { x = 128; w = 4352; avoid = false; top = 0; bottom = 0 } ∷ record {
    x = 512;
    w =
        10240;
    avoid = false;
    top = 0;
    bottom = 0;
  } ∷ record { x = 128; w = 4352; avoid = false; top = 0; bottom = 0 }
      ∷ record { x = 0; w = 4608; avoid = false; top = 0; bottom = 0 } ∷ [];
  stacks = record { flow = 0; w = 11264; bound = Each 2000 } ∷ record { flow = 3; w = 3968; bound = Left 2560 } ∷ [];
}
unfolding same
edge6-flows = refl

-- ---- edge7

abbrev edge7-styles : List BoxStyle
edge7-styles =
    record initial { display = block }
    ∷ record initial { display = hidden }
    ∷ record initial {
      display = block;
      margin = record {
        top = (units 512);
        right = (units 512);
        bottom = (units 512);
        left =
            (units 512);
      };
    }
    ∷ record initial { display = block; column_count = Some 2 }
    ∷ record initial { display = block; height = (units 3200); column_count = Some 2; fill_auto = true }
    ∷ record initial {
      display = block;
      margin = record {
        top = (units 1024);
        right = (units 0);
        bottom = (units 1024);
        left =
            (units 0);
      };
    }
    ∷ initial
    ∷ record initial { display = block }
    ∷ record initial {
      display = block;
      margin = record {
        top = (units 1024);
        right = (units 0);
        bottom = (units 1024);
        left =
            (units 0);
      };
      span_all = true;
    }
    ∷ initial
    ∷ record initial {
      display = block;
      margin = record {
        top = (units 1024);
        right = (units 0);
        bottom = (units 1024);
        left =
            (units 0);
      };
      break_before = breaks.Column;
    }
    ∷ initial
    ∷ record initial {
      display = block;
      margin = record {
        top = (units 1024);
        right = (units 0);
        bottom = (units 1024);
        left =
            (units 0);
      };
      break_before = breaks.Avoid;
    }
    ∷ initial
    ∷ []

abbrev edge7-tree : Forest
edge7-tree = Element 0 (codes "html") [] (Element 0 (codes "head") [] Nil
    (Element 0 (codes "body") []
    (Element 0 (codes "div") []
    (Element 28 (codes "div") [] (Element 80 (codes "p") [] (Words 83 (codes "a") Nil)
    (Element 84 (codes "div") [] (Element 89 (codes "p") [] (Words 116 (codes "b") Nil) Nil) Nil))
    (Element 129 (codes "p") [] (Words 160 (codes "c") Nil) (Element 161 (codes "p") []
    (Words 191 (codes "d") Nil) Nil))) Nil) Nil)) Nil

abbrev edge7-lines : List (List LineBox)
edge7-lines =
    []
    ∷ []
    ∷ []
    ∷ []
    ∷ (sized 512 1228 ∷ [])
    ∷ []
    ∷ (sized 512 1228 ∷ [])
    ∷ (sized 512 1228 ∷ [])
    ∷ (sized 512 1228 ∷ [])
    ∷ []

edge7-boxes : map brief_of (in_order (boxes_of edge7-styles edge7-tree)) ≡ brief 0 block_box ∷ brief 2 block_box
    ∷ brief 3 container ∷ brief 4 container ∷ brief 5 block_box ∷ brief 7 block_box ∷ brief 8 block_box ∷ brief 10 block_box
    ∷ brief 12 block_box ∷ []
unfolding same
edge7-boxes = refl

edge7-shown : shown_from edge7-styles 0 edge7-tree ≡ 0 ∷ 2 ∷ 3 ∷ 4 ∷ 5 ∷ 7 ∷ 8 ∷ 10 ∷ 12 ∷ []
edge7-shown = refl

edge7-flows : flows_of_boxes edge7-styles edge7-lines 11264 None (boxes_of edge7-styles edge7-tree) ≡ record {
  flows = record {
    opened = [];
    items = Row 0 ∷ [];
    seams = seam ([]) L0 (Start 0 ∷ Wall ∷ Margin 512 ∷ Start 1 ∷ Start 2 ∷ Wall ∷ [])
        ∷ seam (Wall ∷ End 2 ∷ End 1 ∷ Margin 512 ∷ Wall ∷ End 0 ∷ []) L0 ([]) ∷ [];
  } ∷ record {
    opened = [];
    items = Atom 3200 (Bounded 3 1 0) ∷ Atom 1228 (Line 7 0 0 512) ∷ Atom 1228 (Line 8 0 0 512) ∷ [];
    seams = seam ([]) L0 (Start 3 ∷ Wall ∷ []) ∷ seam (Wall ∷ End 3 ∷ []) Forced (Margin 1024 ∷ Start 7 ∷ [])
        ∷ seam (End 7 ∷ Margin 1024 ∷ []) L2 (Margin 1024 ∷ Start 8 ∷ []) ∷ seam (End 8 ∷ Margin 1024 ∷ []) L0 ([]) ∷ [];
  } ∷ record {
    opened = [];
    items = Row 1 ∷ Atom 1228 (Line 6 0 0 512) ∷ Row 2 ∷ [];
    seams = bare L0 ∷ seam ([]) L0 (Margin 1024 ∷ Start 6 ∷ Wall ∷ []) ∷ seam (Wall ∷ End 6 ∷ Margin 1024 ∷ []) L0 ([]) ∷ bare L0
        ∷ [];
  } ∷ record {
    opened = [];
    items = Atom 1228 (Line 4 0 0 512) ∷ Atom 0 (Void 5 0 1792) ∷ [];
    seams = seam ([]) L0 (Margin 1024 ∷ Start 4 ∷ []) ∷ seam (End 4 ∷ Margin 1024 ∷ []) L0 (Start 5 ∷ []) ∷ bare L0 ∷ [];
  } ∷ record {
    opened = 5 ∷ [];
    items = Atom 0 (Void 5 0 1792) ∷ [];
    seams = bare L0 ∷ seam (End 5 ∷ []) L0 ([]) ∷ [];
  } ∷ [];
  rows = record { flow = 1; n = 2; w = 4608; step = 5632; x = 512; auto = false } ∷ record {
    flow = 3;
    n = 2;
    w = 1792;
    step =
        2816;
    x = 0;
    auto = false;
  } ∷ record { flow = 4; n = 2; w = 1792; step = 2816; x = 0; auto = true } ∷ [];
  boxes = record { x = 0; w = 11264; avoid = false; top = 0; bottom = 0 } ∷ record {
    x = 512;
    w = 10240;
    avoid = false;
    top = 0;
    bottom = 0;
  } ∷ record { x = 512; w = 10240; avoid = false; top = 0; bottom = 0 } ∷ record {
    x = 0;
    w = 4608;
    avoid = false;
    top = 0;
    bottom = 0;
  } ∷ record { x = 0; w = 1792; avoid = false; top = 0; bottom = 0 } ∷ record {
    x = 0;
    w = 1792;
    avoid = false;
    top = 0;
    bottom = 0;
  } ∷ record { x = 0; w = 4608; avoid = false; top = 0; bottom = 0 } ∷ record {
    x =
        0;
    w = 4608;
    avoid = false;
    top = 0;
    bottom = 0;
  } ∷ record {
    x = 0;
    w = 4608;
    avoid = false;
    top = 0;
    bottom =
        0;
  } ∷ [];
  stacks = record { flow = 0; w = 11264; bound = Free } ∷ record { flow = 2; w = 4608; bound = Left 3200 } ∷ [];
}
unfolding same
edge7-flows = refl

-- ---- edge8

abbrev edge8-styles : List BoxStyle
edge8-styles =
    record initial { display = block }
    ∷ record initial { display = hidden }
    ∷ record initial {
      display = block;
      margin = record {
        top = (units 512);
        right = (units 512);
        bottom = (units 512);
        left =
            (units 512);
      };
    }
    ∷ record initial { display = block }
    ∷ initial
    ∷ initial
    ∷ initial
    ∷ initial
    ∷ record initial {
      display = block;
      margin = record {
        top = (units 1024);
        right = (units 0);
        bottom = (units 1024);
        left =
            (units 0);
      };
    }
    ∷ initial
    ∷ initial
    ∷ record initial { size = 1024; wrap = false; keep = true; hyphens = true }
    ∷ initial
    ∷ record initial {
      display = hidden;
      margin = record {
        top = (units 1024);
        right = (units 0);
        bottom = (units 1024);
        left =
            (units 0);
      };
    }
    ∷ initial
    ∷ initial
    ∷ record initial {
      display = block;
      margin = record { top = (units 0); right = auto; bottom = (units 0); left = auto };
      width = (units 3200);
    }
    ∷ initial
    ∷ initial
    ∷ initial
    ∷ initial
    ∷ []

abbrev edge8-tree : Forest
edge8-tree = Element 0 (codes "html") [] (Element 0 (codes "head") [] Nil
    (Element 0 (codes "body") []
    (Element 0 (codes "div") []
    (Words 5 (codes " ") (Element 6 (codes "span") [] (Words 12 (codes " ") Nil)
    (Words 20 (codes " ") (Element 21 (codes "p") [] (Words 24 (codes "a") Nil)
    (Words 29 (codes " ") (Element 30 (codes "span") [] (Words 60 (codes " ") Nil)
    (Element 68 (codes "p") [] (Words 92 (codes "h") Nil) (Words 97 (codes "x")
    (Element 98 (codes "p") [] (Words 134 (codes "b") Nil) (Words 139 (codes " ")
    (Element 140 (codes "wbr") [] Nil (Words 145 (codes " ") Nil)))))))))))) Nil) Nil)) Nil

abbrev edge8-lines : List (List LineBox)
edge8-lines =
    []
    ∷ []
    ∷ []
    ∷ (sized 512 1228 ∷ [])
    ∷ (sized 1024 1228 ∷ [])
    ∷ (sized 512 1228 ∷ [])
    ∷ []

edge8-boxes : map brief_of (in_order (boxes_of edge8-styles edge8-tree)) ≡ brief 0 block_box ∷ brief 2 block_box
    ∷ brief 3 block_box ∷ brief 8 block_box ∷ brief 3 anonymous ∷ brief 16 block_box ∷ []
unfolding same
edge8-boxes = refl

edge8-shown : shown_from edge8-styles 0 edge8-tree ≡ 0 ∷ 2 ∷ 3 ∷ 5 ∷ 8 ∷ 11 ∷ 16 ∷ 19 ∷ []
edge8-shown = refl

edge8-flows : flows_of_boxes edge8-styles edge8-lines 11264 (Some 2000) (boxes_of edge8-styles edge8-tree) ≡ record {
  flows = record {
    opened = [];
    items = Atom 1228 (Line 3 0 512 512) ∷ Atom 1228 (Line 4 0 512 1024) ∷ Atom 1228 (Line 5 0 4032 512) ∷ [];
    seams = seam ([]) L0 (Start 0 ∷ Wall ∷ Margin 512 ∷ Start 1 ∷ Start 2 ∷ Margin 1024 ∷ Start 3 ∷ [])
        ∷ seam (End 3 ∷ Margin 1024 ∷ []) L0 (Start 4 ∷ []) ∷ seam (End 4 ∷ []) L0 (Start 5 ∷ [])
        ∷ seam (End 5 ∷ End 2 ∷ End 1 ∷ Margin 512 ∷ Wall ∷ End 0 ∷ []) L0 ([]) ∷ [];
  } ∷ [];
  rows = [];
  boxes = record { x = 0; w = 11264; avoid = false; top = 0; bottom = 0 } ∷ record {
    x = 512;
    w = 10240;
    avoid = false;
    top = 0;
    bottom = 0;
  } ∷ record { x = 512; w = 10240; avoid = false; top = 0; bottom = 0 } ∷ record {
    x = 512;
    w = 10240;
    avoid =
        false;
    top = 0;
    bottom = 0;
  } ∷ record { x = 512; w = 10240; avoid = false; top = 0; bottom = 0 } ∷ record {
    x = 4032;
    w = 3200;
    avoid = false;
    top = 0;
    bottom = 0;
  } ∷ [];
  stacks = record { flow = 0; w = 11264; bound = Each 2000 } ∷ [];
}
unfolding same
edge8-flows = refl

-- ---- edge9

abbrev edge9-styles : List BoxStyle
edge9-styles =
    record initial { display = block }
    ∷ record initial { display = hidden }
    ∷ record initial {
      display = block;
      margin = record {
        top = (units 512);
        right = (units 512);
        bottom = (units 512);
        left =
            (units 512);
      };
    }
    ∷ record initial { display = block; column_count = Some 3; column_gap = (percent 10000000000) }
    ∷ record initial {
      display = block;
      margin = record { top = auto; right = auto; bottom = auto; left = auto };
      width =
          (percent 70000000000);
      column_width = Some 1280;
    }
    ∷ record initial {
      display = block;
      margin = record {
        top = (units 1024);
        right = (units 0);
        bottom = (units 1024);
        left =
            (units 0);
      };
    }
    ∷ initial
    ∷ record initial { display = block; span_all = true }
    ∷ initial
    ∷ initial
    ∷ initial
    ∷ []

abbrev edge9-tree : Forest
edge9-tree = Element 0 (codes "html") [] (Element 0 (codes "head") [] Nil
    (Element 0 (codes "body") []
    (Element 0 (codes "div") []
    (Element 43 (codes "div") [] (Element 114 (codes "p") [] (Words 117 (codes "aa") Nil)
    (Element 119 (codes "div") [] (Words 148 (codes "s") Nil) (Words 155 (codes "t") Nil)))
    (Words 162 (codes "u") Nil)) Nil) Nil)) Nil

abbrev edge9-lines : List (List LineBox)
edge9-lines =
    []
    ∷ []
    ∷ []
    ∷ []
    ∷ (sized 1024 1228 ∷ [])
    ∷ (sized 512 1228 ∷ [])
    ∷ (sized 512 1228 ∷ [])
    ∷ (sized 512 1228 ∷ [])
    ∷ []

edge9-boxes : map brief_of (in_order (boxes_of edge9-styles edge9-tree)) ≡ brief 0 block_box ∷ brief 2 block_box
    ∷ brief 3 container ∷ brief 4 container ∷ brief 5 block_box ∷ brief 7 block_box ∷ brief 4 anonymous ∷ brief 3 anonymous ∷ []
unfolding same
edge9-boxes = refl

edge9-shown : shown_from edge9-styles 0 edge9-tree ≡ 0 ∷ 2 ∷ 3 ∷ 4 ∷ 5 ∷ 7 ∷ []
edge9-shown = refl

edge9-flows : flows_of_boxes edge9-styles edge9-lines 11264 None (boxes_of edge9-styles edge9-tree) ≡ record {
  flows = record {
    opened = [];
    items = Row 0 ∷ [];
    seams = seam ([]) L0 (Start 0 ∷ Wall ∷ Margin 512 ∷ Start 1 ∷ Start 2 ∷ Wall ∷ [])
        ∷ seam (Wall ∷ End 2 ∷ End 1 ∷ Margin 512 ∷ Wall ∷ End 0 ∷ []) L0 ([]) ∷ [];
  } ∷ record {
    opened = [];
    items = Row 1 ∷ Atom 1228 (Line 5 0 409 512) ∷ Row 2 ∷ Atom 1228 (Line 7 0 0 512) ∷ [];
    seams = seam ([]) L0 (Start 3 ∷ Wall ∷ []) ∷ seam ([]) L0 (Start 5 ∷ Wall ∷ []) ∷ seam (Wall ∷ End 5 ∷ []) L0 ([])
        ∷ seam (Wall ∷ End 3 ∷ []) L0 (Start 7 ∷ []) ∷ seam (End 7 ∷ []) L0 ([]) ∷ [];
  } ∷ record {
    opened = [];
    items = Atom 1228 (Line 4 0 0 1024) ∷ [];
    seams = seam ([]) L0 (Margin 1024 ∷ Start 4 ∷ []) ∷ seam (End 4 ∷ Margin 1024 ∷ []) L0 ([]) ∷ [];
  } ∷ record {
    opened = [];
    items = Atom 1228 (Line 6 0 0 512) ∷ [];
    seams = seam ([]) L0 (Start 6 ∷ []) ∷ seam (End 6 ∷ []) L0 ([]) ∷ [];
  } ∷ [];
  rows = record { flow = 1; n = 3; w = 2730; step = 3754; x = 512; auto = false } ∷ record {
    flow = 2;
    n = 1;
    w = 1911;
    step =
        2935;
    x = 409;
    auto = false;
  } ∷ record { flow = 3; n = 1; w = 1911; step = 2935; x = 409; auto = false } ∷ [];
  boxes = record { x = 0; w = 11264; avoid = false; top = 0; bottom = 0 } ∷ record {
    x = 512;
    w = 10240;
    avoid = false;
    top = 0;
    bottom = 0;
  } ∷ record { x = 512; w = 10240; avoid = false; top = 0; bottom = 0 } ∷ record {
    x = 409;
    w = 1911;
    avoid =
        false;
    top = 0;
    bottom = 0;
  } ∷ record { x = 0; w = 1911; avoid = false; top = 0; bottom = 0 } ∷ record {
    x = 409;
    w =
        1911;
    avoid = false;
    top = 0;
    bottom = 0;
  } ∷ record { x = 0; w = 1911; avoid = false; top = 0; bottom = 0 }
      ∷ record { x = 0; w = 2730; avoid = false; top = 0; bottom = 0 } ∷ [];
  stacks = record { flow = 0; w = 11264; bound = Free } ∷ [];
}
unfolding same
edge9-flows = refl
