-- Worked cases of documents: their boxes and their flows.
use Rattle.std.proofs.Common.{◌≡◌, false, true, [], ◌∷◌, Some, None, map, refl}
use Rattle.std.specs.Prelude.{List, codes}
use Rattle.mc_base.specs.declared.level.Level.TheVariants.{L0, L1}
use Rattle.html_grammar.specs.Names.{same}
use Rattle.html_grammar.specs.Tree.{Forest, Nil, Element, Words}
use Rattle.flow_data.specs.declared.data.AtomKind.TheVariants.{Line, Void, Image}
use Rattle.flow_data.specs.declared.data.Bound.TheVariants.{Free, Each}
use Rattle.flow_data.specs.declared.data.Edge.TheVariants.{Margin, Solid, Wall, Start, End}
use Rattle.flow_data.specs.declared.data.Item.TheVariants.{Atom, Row}
use Rattle.line_breaker.specs.declared.line.Line.{Line as LineBox}
use Rattle.box_data.specs.declared.style.BoxStyle.{BoxStyle}
use Rattle.box_data.specs.declared.style.Length.TheVariants.{Units as units, Percent as percent}
use Rattle.box_data.specs.declared.style.Display.TheVariants.{Hidden as hidden, Block as block}
use Rattle.box_data.specs.Styles.{initial}
use Rattle.box_data.specs.declared.tree.BoxKind.TheVariants.{Block as block_box, Anonymous as anonymous, Container as container}
use Rattle.box_data.specs.declared.tree.BoxKind.TheVariants.{ImageBlock as image_block}
use Rattle.box_data.specs.BoxTree.{in_order, boxes_of, shown_from}
use Rattle.box_data.specs.DocumentFlows.{flows_of_boxes}
use Rattle.doc_laws.proofs.Worked.{seam, bare, brief, brief_of, sized, size}

-- ---- edge0

abbrev edge0-styles : List BoxStyle
edge0-styles =
    record initial { display = hidden }
    ∷ record initial { display = hidden }
    ∷ record initial {
      display = block;
      margin = record {
        top = (units 512);
        right = (units 512);
        bottom = (units 512);
        left =
            (units 512);
      };
    }
    ∷ record initial {
      display = block;
      margin = record {
        top = (units 1024);
        right = (units 0);
        bottom = (units 1024);
        left =
            (units 0);
      };
    }
    ∷ initial
    ∷ []

abbrev edge0-tree : Forest
edge0-tree = Element 0 (codes "html") [] (Element 27 (codes "head") [] Nil
    (Element 27 (codes "body") [] (Element 27 (codes "p") [] (Words 30 (codes "x") Nil) Nil) Nil)) Nil

abbrev edge0-lines : List (List LineBox)
edge0-lines =
    []

edge0-boxes : map brief_of (in_order (boxes_of edge0-styles edge0-tree)) ≡ []
unfolding same
edge0-boxes = refl

edge0-shown : shown_from edge0-styles 0 edge0-tree ≡ []
edge0-shown = refl

edge0-flows : flows_of_boxes edge0-styles edge0-lines 11264 (Some 2000) (boxes_of edge0-styles edge0-tree) ≡ record {
  flows = record {
    opened = [];
    items = [];
    seams = bare L0 ∷ [];
  } ∷ [];
  rows = [];
  boxes = [];
  stacks = record { flow = 0; w = 11264; bound = Each 2000 } ∷ [];
}
unfolding same
edge0-flows = refl

-- ---- edge1

abbrev edge1-styles : List BoxStyle
edge1-styles =
    record initial { column_count = Some 2 }
    ∷ record initial { display = hidden }
    ∷ record initial {
      display = block;
      margin = record {
        top = (units 512);
        right = (units 512);
        bottom = (units 512);
        left =
            (units 512);
      };
    }
    ∷ record initial {
      display = block;
      margin = record {
        top = (units 1024);
        right = (units 0);
        bottom = (units 1024);
        left =
            (units 0);
      };
    }
    ∷ initial
    ∷ record initial {
      display = block;
      margin = record {
        top = (units 1024);
        right = (units 0);
        bottom = (units 1024);
        left =
            (units 0);
      };
      span_all = true;
    }
    ∷ initial
    ∷ record initial {
      display = block;
      margin = record {
        top = (units 1024);
        right = (units 0);
        bottom = (units 1024);
        left =
            (units 0);
      };
    }
    ∷ initial
    ∷ []

abbrev edge1-tree : Forest
edge1-tree = Element 0 (codes "html") [] (Element 44 (codes "head") [] Nil
    (Element 44 (codes "body") [] (Element 50 (codes "p") [] (Words 53 (codes "aaaa bbbb cccc") Nil)
    (Element 67 (codes "p") [] (Words 94 (codes "dddd") Nil) (Element 98 (codes "p") []
    (Words 101 (codes "eeee") Nil) Nil))) Nil)) Nil

abbrev edge1-lines : List (List LineBox)
edge1-lines =
    []
    ∷ []
    ∷ (sized 2048 1228 ∷ sized 2048 1228 ∷ sized 2048 1228 ∷ [])
    ∷ (sized 2048 1228 ∷ [])
    ∷ (sized 2048 1228 ∷ [])
    ∷ []

edge1-boxes : map brief_of (in_order (boxes_of edge1-styles edge1-tree)) ≡ brief 0 container ∷ brief 2 block_box
    ∷ brief 3 block_box ∷ brief 5 block_box ∷ brief 7 block_box ∷ []
unfolding same
edge1-boxes = refl

edge1-shown : shown_from edge1-styles 0 edge1-tree ≡ 0 ∷ 2 ∷ 3 ∷ 5 ∷ 7 ∷ []
edge1-shown = refl

edge1-flows : flows_of_boxes edge1-styles edge1-lines 11264 None (boxes_of edge1-styles edge1-tree) ≡ record {
  flows = record {
    opened = [];
    items = Row 0 ∷ Atom 1228 (Line 3 0 0 2048) ∷ Row 1 ∷ [];
    seams = seam ([]) L0 (Start 0 ∷ Wall ∷ []) ∷ seam ([]) L0 (Margin 1024 ∷ Start 3 ∷ Wall ∷ [])
        ∷ seam (Wall ∷ End 3 ∷ Margin 1024 ∷ []) L0 ([]) ∷ seam (Wall ∷ End 0 ∷ []) L0 ([]) ∷ [];
  } ∷ record {
    opened = [];
    items = Atom 1228 (Line 2 0 512 2048) ∷ Atom 1228 (Line 2 1 512 2048) ∷ Atom 1228 (Line 2 2 512 2048) ∷ [];
    seams = seam ([]) L0 (Margin 512 ∷ Start 1 ∷ Margin 1024 ∷ Start 2 ∷ []) ∷ bare L1 ∷ bare L1
        ∷ seam (End 2 ∷ Margin 1024 ∷ []) L0 ([]) ∷ [];
  } ∷ record {
    opened = 1 ∷ [];
    items = Atom 1228 (Line 4 0 512 2048) ∷ [];
    seams = seam ([]) L0 (Margin 1024 ∷ Start 4 ∷ []) ∷ seam (End 4 ∷ Margin 1024 ∷ End 1 ∷ Margin 512 ∷ []) L0 ([]) ∷ [];
  } ∷ [];
  rows = record { flow = 1; n = 2; w = 5120; step = 6144; x = 0; auto = false } ∷ record {
    flow = 2;
    n = 2;
    w = 5120;
    step = 6144;
    x = 0;
    auto = false;
  } ∷ [];
  boxes = record { x = 0; w = 11264; avoid = false; top = 0; bottom = 0 } ∷ record {
    x = 512;
    w = 4096;
    avoid = false;
    top = 0;
    bottom = 0;
  } ∷ record { x = 512; w = 4096; avoid = false; top = 0; bottom = 0 } ∷ record {
    x = 0;
    w = 11264;
    avoid = false;
    top = 0;
    bottom = 0;
  } ∷ record { x = 512; w = 4096; avoid = false; top = 0; bottom = 0 } ∷ [];
  stacks = record { flow = 0; w = 11264; bound = Free } ∷ [];
}
unfolding same
edge1-flows = refl

-- ---- edge2

abbrev edge2-styles : List BoxStyle
edge2-styles =
    record initial { display = block }
    ∷ record initial { display = hidden }
    ∷ record initial {
      display = block;
      margin = record {
        top = (units 512);
        right = (units 512);
        bottom = (units 512);
        left =
            (units 512);
      };
    }
    ∷ record initial { display = block; column_count = Some 2 }
    ∷ initial
    ∷ record initial { display = block }
    ∷ initial
    ∷ record initial { display = block; column_count = Some 3 }
    ∷ initial
    ∷ []

abbrev edge2-tree : Forest
edge2-tree = Element 0 (codes "html") [] (Element 0 (codes "head") [] Nil
    (Element 0 (codes "body") []
    (Element 0 (codes "div") []
    (Words 28 (codes "a") (Element 29 (codes "br") [] Nil (Words 55 (codes "b")
    (Element 56 (codes "wbr") [] Nil (Words 98 (codes "c") Nil))))) Nil) Nil)) Nil

abbrev edge2-lines : List (List LineBox)
edge2-lines =
    []
    ∷ []
    ∷ []
    ∷ (sized 512 1228 ∷ [])
    ∷ []
    ∷ (sized 512 1228 ∷ [])
    ∷ []
    ∷ (sized 512 1228 ∷ [])
    ∷ []

edge2-boxes : map brief_of (in_order (boxes_of edge2-styles edge2-tree)) ≡ brief 0 block_box ∷ brief 2 block_box
    ∷ brief 3 container ∷ brief 3 anonymous ∷ brief 5 block_box ∷ brief 3 anonymous ∷ brief 7 container ∷ brief 3 anonymous ∷ []
unfolding same
edge2-boxes = refl

edge2-shown : shown_from edge2-styles 0 edge2-tree ≡ 0 ∷ 2 ∷ 3 ∷ 5 ∷ 7 ∷ []
edge2-shown = refl

edge2-flows : flows_of_boxes edge2-styles edge2-lines 11264 (Some 2000) (boxes_of edge2-styles edge2-tree) ≡ record {
  flows = record {
    opened = [];
    items = Row 0 ∷ [];
    seams = seam ([]) L0 (Start 0 ∷ Wall ∷ Margin 512 ∷ Start 1 ∷ Start 2 ∷ Wall ∷ [])
        ∷ seam (Wall ∷ End 2 ∷ End 1 ∷ Margin 512 ∷ Wall ∷ End 0 ∷ []) L0 ([]) ∷ [];
  } ∷ record {
    opened = [];
    items = Atom 1228 (Line 3 0 0 512) ∷ Atom 0 (Void 4 0 4608) ∷ Atom 1228 (Line 5 0 0 512) ∷ Atom 0 (Void 6 0 4608)
        ∷ Atom 1228 (Line 7 0 0 512) ∷ [];
    seams = seam ([]) L0 (Start 3 ∷ []) ∷ seam (End 3 ∷ []) L0 (Start 4 ∷ []) ∷ seam (End 4 ∷ []) L0 (Start 5 ∷ [])
        ∷ seam (End 5 ∷ []) L0 (Start 6 ∷ Wall ∷ []) ∷ seam (Wall ∷ End 6 ∷ []) L0 (Start 7 ∷ []) ∷ seam (End 7 ∷ []) L0 ([])
        ∷ [];
  } ∷ [];
  rows = record { flow = 1; n = 2; w = 4608; step = 5632; x = 512; auto = false } ∷ [];
  boxes = record { x = 0; w = 11264; avoid = false; top = 0; bottom = 0 } ∷ record {
    x = 512;
    w = 10240;
    avoid = false;
    top = 0;
    bottom = 0;
  } ∷ record { x = 512; w = 10240; avoid = false; top = 0; bottom = 0 } ∷ record {
    x = 0;
    w = 4608;
    avoid = false;
    top = 0;
    bottom = 0;
  } ∷ record { x = 0; w = 4608; avoid = false; top = 0; bottom = 0 } ∷ record {
    x = 0;
    w = 4608;
    avoid = false;
    top = 0;
    bottom = 0;
  } ∷ record { x = 0; w = 4608; avoid = false; top = 0; bottom = 0 } ∷ record {
    x =
        0;
    w = 4608;
    avoid = false;
    top = 0;
    bottom = 0;
  } ∷ [];
  stacks = record { flow = 0; w = 11264; bound = Each 2000 } ∷ [];
}
unfolding same
edge2-flows = refl

-- ---- edge3

abbrev edge3-styles : List BoxStyle
edge3-styles =
    record initial { display = block }
    ∷ record initial { display = hidden }
    ∷ record initial {
      display = block;
      margin = record {
        top = (units 512);
        right = (units 512);
        bottom = (units 512);
        left =
            (units 512);
      };
    }
    ∷ record initial { display = block; column_count = Some 2 }
    ∷ record initial {
      display = block;
      margin = record {
        top = (units 1024);
        right = (units 0);
        bottom = (units 1024);
        left =
            (units 0);
      };
    }
    ∷ initial
    ∷ record initial {
      display = block;
      padding = record {
        top = (percent 5000000000);
        right = (percent 5000000000);
        bottom =
            (percent 5000000000);
        left = (percent 5000000000);
      };
      border = record { top = 192; right = 192; bottom = 192; left = 192 };
      width = (percent 50000000000);
      max_width = (units 2560);
      border_box = true;
      span_all = true;
    }
    ∷ initial
    ∷ []

abbrev edge3-tree : Forest
edge3-tree = Element 0 (codes "html") [] (Element 0 (codes "head") [] Nil
    (Element 0 (codes "body") []
    (Element 0 (codes "div") []
    (Element 28 (codes "p") []
    (Words 31 (codes "a") (Element 32 (codes "img") (size (codes "width") (codes "80")
    ∷ size (codes "height") (codes "33") ∷ []) Nil (Words 173 (codes "b") Nil))) Nil) Nil) Nil)) Nil

abbrev edge3-lines : List (List LineBox)
edge3-lines =
    []
    ∷ []
    ∷ []
    ∷ []
    ∷ (sized 512 1228 ∷ [])
    ∷ []
    ∷ (sized 512 1228 ∷ [])
    ∷ []

edge3-boxes : map brief_of (in_order (boxes_of edge3-styles edge3-tree)) ≡ brief 0 block_box ∷ brief 2 block_box
    ∷ brief 3 container ∷ brief 4 block_box ∷ brief 4 anonymous ∷ brief 6 image_block ∷ brief 4 anonymous ∷ []
unfolding same
edge3-boxes = refl

edge3-shown : shown_from edge3-styles 0 edge3-tree ≡ 0 ∷ 2 ∷ 3 ∷ 4 ∷ 6 ∷ []
edge3-shown = refl

edge3-flows : flows_of_boxes edge3-styles edge3-lines 11264 None (boxes_of edge3-styles edge3-tree) ≡ record {
  flows = record {
    opened = [];
    items = Row 0 ∷ Atom 475 (Image 5 1216 1152) ∷ Row 1 ∷ [];
    seams = seam ([]) L0 (Start 0 ∷ Wall ∷ Margin 512 ∷ Start 1 ∷ Start 2 ∷ Wall ∷ [])
        ∷ seam ([]) L0 (Start 5 ∷ Solid 704 ∷ Wall ∷ []) ∷ seam (Wall ∷ Solid 704 ∷ End 5 ∷ []) L0 ([])
        ∷ seam (Wall ∷ End 2 ∷ End 1 ∷ Margin 512 ∷ Wall ∷ End 0 ∷ []) L0 ([]) ∷ [];
  } ∷ record {
    opened = [];
    items = Atom 1228 (Line 4 0 0 512) ∷ [];
    seams = seam ([]) L0 (Margin 1024 ∷ Start 3 ∷ Start 4 ∷ []) ∷ seam (End 4 ∷ []) L0 ([]) ∷ [];
  } ∷ record {
    opened = 3 ∷ [];
    items = Atom 1228 (Line 6 0 0 512) ∷ [];
    seams = seam ([]) L0 (Start 6 ∷ []) ∷ seam (End 6 ∷ End 3 ∷ Margin 1024 ∷ []) L0 ([]) ∷ [];
  } ∷ [];
  rows = record { flow = 1; n = 2; w = 4608; step = 5632; x = 512; auto = false } ∷ record {
    flow = 2;
    n = 2;
    w = 4608;
    step =
        5632;
    x = 512;
    auto = false;
  } ∷ [];
  boxes = record { x = 0; w = 11264; avoid = false; top = 0; bottom = 0 } ∷ record {
    x = 512;
    w = 10240;
    avoid = false;
    top = 0;
    bottom = 0;
  } ∷ record { x = 512; w = 10240; avoid = false; top = 0; bottom = 0 } ∷ record {
    x = 0;
    w = 4608;
    avoid = false;
    top = 0;
    bottom = 0;
  } ∷ record { x = 0; w = 4608; avoid = false; top = 0; bottom = 0 } ∷ record {
    x = 512;
    w = 2560;
    avoid = false;
    top = 0;
    bottom = 0;
  } ∷ record { x = 0; w = 4608; avoid = false; top = 0; bottom = 0 } ∷ [];
  stacks = record { flow = 0; w = 11264; bound = Free } ∷ [];
}
unfolding same
edge3-flows = refl

-- ---- edge4

abbrev edge4-styles : List BoxStyle
edge4-styles =
    record initial { display = block }
    ∷ record initial { display = hidden }
    ∷ record initial {
      display = block;
      margin = record {
        top = (units 512);
        right = (units 512);
        bottom = (units 512);
        left =
            (units 512);
      };
    }
    ∷ record initial { display = block; column_count = Some 2 }
    ∷ record initial { display = block }
    ∷ record initial {
      display = block;
      margin = record {
        top = (units 1024);
        right = (units 0);
        bottom = (units 1024);
        left =
            (units 0);
      };
    }
    ∷ initial
    ∷ record initial { display = block; column_count = Some 2; span_all = true }
    ∷ record initial {
      display = block;
      margin = record {
        top = (units 1024);
        right = (units 0);
        bottom = (units 1024);
        left =
            (units 0);
      };
      span_all = true;
    }
    ∷ initial
    ∷ initial
    ∷ initial
    ∷ record initial {
      display = block;
      margin = record {
        top = (units 1024);
        right = (units 0);
        bottom = (units 1024);
        left =
            (units 0);
      };
    }
    ∷ initial
    ∷ []

abbrev edge4-tree : Forest
edge4-tree = Element 0 (codes "html") [] (Element 0 (codes "head") [] Nil
    (Element 0 (codes "body") []
    (Element 0 (codes "div") []
    (Element 28 (codes "div") [] (Element 33 (codes "p") [] (Words 36 (codes "a") Nil)
    (Element 41 (codes "div") [] (Element 85 (codes "p") [] (Words 112 (codes "b") Nil)
    (Element 117 (codes "i") [] (Words 120 (codes "c") Nil) Nil)) Nil))
    (Element 137 (codes "p") [] (Words 140 (codes "d") Nil) Nil)) Nil) Nil)) Nil

abbrev edge4-lines : List (List LineBox)
edge4-lines =
    []
    ∷ []
    ∷ []
    ∷ []
    ∷ (sized 512 1228 ∷ [])
    ∷ []
    ∷ (sized 512 1228 ∷ [])
    ∷ (sized 512 1228 ∷ [])
    ∷ (sized 512 1228 ∷ [])
    ∷ []

edge4-boxes : map brief_of (in_order (boxes_of edge4-styles edge4-tree)) ≡ brief 0 block_box ∷ brief 2 block_box
    ∷ brief 3 container ∷ brief 4 block_box ∷ brief 5 block_box ∷ brief 7 container ∷ brief 8 block_box ∷ brief 7 anonymous
    ∷ brief 12 block_box ∷ []
unfolding same
edge4-boxes = refl

edge4-shown : shown_from edge4-styles 0 edge4-tree ≡ 0 ∷ 2 ∷ 3 ∷ 4 ∷ 5 ∷ 7 ∷ 8 ∷ 10 ∷ 12 ∷ []
edge4-shown = refl

edge4-flows : flows_of_boxes edge4-styles edge4-lines 11264 (Some 2000) (boxes_of edge4-styles edge4-tree) ≡ record {
  flows = record {
    opened = [];
    items = Row 0 ∷ Atom 1228 (Line 6 0 512 512) ∷ Row 1 ∷ Row 2 ∷ [];
    seams = seam ([]) L0 (Start 0 ∷ Wall ∷ Margin 512 ∷ Start 1 ∷ Start 2 ∷ Wall ∷ [])
        ∷ seam ([]) L0 (Start 5 ∷ Wall ∷ Margin 1024 ∷ Start 6 ∷ Wall ∷ []) ∷ seam (Wall ∷ End 6 ∷ Margin 1024 ∷ []) L0 ([])
        ∷ seam (Wall ∷ End 5 ∷ []) L0 ([]) ∷ seam (Wall ∷ End 2 ∷ End 1 ∷ Margin 512 ∷ Wall ∷ End 0 ∷ []) L0 ([]) ∷ [];
  } ∷ record {
    opened = [];
    items = Atom 1228 (Line 4 0 0 512) ∷ [];
    seams = seam ([]) L0 (Start 3 ∷ Margin 1024 ∷ Start 4 ∷ []) ∷ seam (End 4 ∷ Margin 1024 ∷ []) L0 ([]) ∷ [];
  } ∷ record {
    opened = [];
    items = Atom 1228 (Line 7 0 0 512) ∷ [];
    seams = seam ([]) L0 (Start 7 ∷ []) ∷ seam (End 7 ∷ []) L0 ([]) ∷ [];
  } ∷ record {
    opened = 3 ∷ [];
    items = Atom 0 (Void 3 0 4608) ∷ Atom 1228 (Line 8 0 0 512) ∷ [];
    seams = bare L0 ∷ seam (End 3 ∷ []) L0 (Margin 1024 ∷ Start 8 ∷ []) ∷ seam (End 8 ∷ Margin 1024 ∷ []) L0 ([]) ∷ [];
  } ∷ [];
  rows = record { flow = 1; n = 2; w = 4608; step = 5632; x = 512; auto = false } ∷ record {
    flow = 2;
    n = 2;
    w = 4608;
    step =
        5632;
    x = 512;
    auto = false;
  } ∷ record { flow = 3; n = 2; w = 4608; step = 5632; x = 512; auto = false } ∷ [];
  boxes = record { x = 0; w = 11264; avoid = false; top = 0; bottom = 0 } ∷ record {
    x = 512;
    w = 10240;
    avoid = false;
    top = 0;
    bottom = 0;
  } ∷ record { x = 512; w = 10240; avoid = false; top = 0; bottom = 0 } ∷ record {
    x = 0;
    w = 4608;
    avoid = false;
    top = 0;
    bottom = 0;
  } ∷ record { x = 0; w = 4608; avoid = false; top = 0; bottom = 0 } ∷ record {
    x = 512;
    w = 10240;
    avoid = false;
    top = 0;
    bottom = 0;
  } ∷ record { x = 512; w = 10240; avoid = false; top = 0; bottom = 0 }
      ∷ record { x = 0; w = 4608; avoid = false; top = 0; bottom = 0 } ∷ record {
        x = 0;
        w = 4608;
        avoid = false;
        top = 0;
        bottom = 0;
      } ∷ [];
  stacks = record { flow = 0; w = 11264; bound = Each 2000 } ∷ [];
}
unfolding same
edge4-flows = refl
