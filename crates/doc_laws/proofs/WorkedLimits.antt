-- Worked cases of limits.
use Rattle.std.proofs.Common.{◌≡◌, [], ◌∷◌, Some, None, refl}
use Rattle.std.specs.Prelude.{ℕ, List, codes}
use Rattle.html_grammar.specs.Names.{same}
use Rattle.html_grammar.specs.Tree.{Forest, Nil, Element}
use Rattle.box_data.specs.declared.style.BoxStyle.{BoxStyle}
use Rattle.box_data.specs.declared.style.Length.TheVariants.{Units as units, Percent as percent}
use Rattle.box_data.specs.declared.style.Display.TheVariants.{Hidden as hidden, Block as block}
use Rattle.box_data.specs.Styles.{initial}
use Rattle.box_data.specs.BoxTree.{boxes_of, or_else, in_order}
use Rattle.box_data.specs.DocumentFlows.{flows_of_boxes}
use Rattle.mc_base.specs.declared.refusal.Refusal.{Refusal}
use Rattle.mc_base.specs.declared.refusal.Refusal.TheVariants as refusals
use Rattle.mc_base.specs.declared.refusal.LimitName.TheVariants as limits
use Rattle.std.specs.Prelude.{Option}
use Rattle.box_data.specs.Widths.{placed}
use Rattle.box_data.specs.Content.{content_of}
use Rattle.box_data.specs.Limits.{long, late_limit, all_used_lengths}
use Rattle.doc_laws.proofs.Worked.{size}

-- no line is told here: each block holds a void
abbrev limit_of : List BoxStyle → Forest → ℕ → Option Refusal
limit_of styles tree width =
    let boxes = boxes_of styles tree in
    let places = placed styles [] width boxes in
    or_else (long (all_used_lengths (in_order places))) (late_limit (in_order places) (content_of places)
    (flows_of_boxes styles [] width None boxes))

abbrev many-columns-styles : List BoxStyle
many-columns-styles =
    record initial { display = block }
    ∷ record initial { display = hidden }
    ∷ record initial {
      display = block;
      margin = record {
        top = (units 512);
        right = (units 512);
        bottom = (units 512);
        left =
            (units 512);
      };
    }
    ∷ record initial { display = block; column_count = Some 33 }
    ∷ []

abbrev many-columns-tree : Forest
many-columns-tree = Element 0 (codes "html") [] (Element 0 (codes "head") [] Nil
    (Element 0 (codes "body") [] (Element 0 (codes "div") [] Nil Nil) Nil)) Nil

many-columns-limit : limit_of many-columns-styles many-columns-tree 11264 ≡ Some (refusals.Limit limits.Columns 33 32)
unfolding same
many-columns-limit = refl

abbrev wide-margin-styles : List BoxStyle
wide-margin-styles =
    record initial { display = block }
    ∷ record initial { display = hidden }
    ∷ record initial {
      display = block;
      margin = record {
        top = (units 512);
        right = (units 512);
        bottom = (units 512);
        left =
            (units 512);
      };
    }
    ∷ record initial {
      display = block;
      margin = record {
        top = (units 0);
        right = (units 0);
        bottom = (units 0);
        left =
            (units 19200000);
      };
    }
    ∷ []

abbrev wide-margin-tree : Forest
wide-margin-tree = Element 0 (codes "html") [] (Element 0 (codes "head") [] Nil
    (Element 0 (codes "body") [] (Element 0 (codes "div") [] Nil Nil) Nil)) Nil

wide-margin-limit : limit_of wide-margin-styles wide-margin-tree 11264 ≡ Some (refusals.Limit limits.Length 19200000 16777216)
unfolding same
wide-margin-limit = refl

abbrev wide-sum-styles : List BoxStyle
wide-sum-styles =
    record initial { display = block }
    ∷ record initial { display = hidden }
    ∷ record initial {
      display = block;
      margin = record {
        top = (units 512);
        right = (units 512);
        bottom = (units 512);
        left =
            (units 512);
      };
    }
    ∷ record initial {
      display = block;
      padding = record {
        top = (units 0);
        right = (units 0);
        bottom = (units 0);
        left =
            (percent 150000000000);
      };
      width = (units 12800000);
    }
    ∷ []

abbrev wide-sum-tree : Forest
wide-sum-tree = Element 0 (codes "html") [] (Element 0 (codes "head") [] Nil
    (Element 0 (codes "body") [] (Element 0 (codes "div") [] Nil Nil) Nil)) Nil

wide-sum-limit : limit_of wide-sum-styles wide-sum-tree 11264 ≡ None
unfolding same
wide-sum-limit = refl

abbrev deep-styles : List BoxStyle
deep-styles =
    record initial { display = block }
    ∷ record initial { display = hidden }
    ∷ record initial {
      display = block;
      margin = record {
        top = (units 512);
        right = (units 512);
        bottom = (units 512);
        left =
            (units 512);
      };
    }
    ∷ record initial { display = block; column_count = Some 2 }
    ∷ record initial { display = block; column_count = Some 2 }
    ∷ record initial { display = block; column_count = Some 2 }
    ∷ record initial { display = block; column_count = Some 2 }
    ∷ record initial {
      display = block;
      margin = record {
        top = (units 1024);
        right = (units 0);
        bottom = (units 1024);
        left =
            (units 0);
      };
    }
    ∷ []

abbrev deep-tree : Forest
deep-tree = Element 0 (codes "html") [] (Element 0 (codes "head") [] Nil
    (Element 0 (codes "body") []
    (Element 0 (codes "div") []
    (Element 28 (codes "div") []
    (Element 56 (codes "div") []
    (Element 84 (codes "div") [] (Element 112 (codes "p") [] Nil Nil) Nil) Nil) Nil) Nil) Nil)) Nil

deep-limit : limit_of deep-styles deep-tree 11264 ≡ Some (refusals.Limit limits.Nest 4 3)
unfolding same
deep-limit = refl

abbrev not-deep-styles : List BoxStyle
not-deep-styles =
    record initial { display = block }
    ∷ record initial { display = hidden }
    ∷ record initial {
      display = block;
      margin = record {
        top = (units 512);
        right = (units 512);
        bottom = (units 512);
        left =
            (units 512);
      };
    }
    ∷ record initial { display = block; column_count = Some 2 }
    ∷ record initial { display = block; column_count = Some 2 }
    ∷ record initial { display = block; height = (units 6400); column_count = Some 2 }
    ∷ record initial { display = block; column_count = Some 2 }
    ∷ record initial {
      display = block;
      margin = record {
        top = (units 1024);
        right = (units 0);
        bottom = (units 1024);
        left =
            (units 0);
      };
    }
    ∷ []

abbrev not-deep-tree : Forest
not-deep-tree = Element 0 (codes "html") [] (Element 0 (codes "head") [] Nil
    (Element 0 (codes "body") []
    (Element 0 (codes "div") []
    (Element 28 (codes "div") []
    (Element 56 (codes "div") []
    (Element 97 (codes "div") [] (Element 125 (codes "p") [] Nil Nil) Nil) Nil) Nil) Nil) Nil)) Nil

not-deep-limit : limit_of not-deep-styles not-deep-tree 11264 ≡ None
unfolding same
not-deep-limit = refl

abbrev high-image-styles : List BoxStyle
high-image-styles =
    record initial { display = block }
    ∷ record initial { display = hidden }
    ∷ record initial {
      display = block;
      margin = record {
        top = (units 512);
        right = (units 512);
        bottom = (units 512);
        left =
            (units 512);
      };
    }
    ∷ record initial {
      display = block;
      margin = record {
        top = (units 1024);
        right = (units 0);
        bottom = (units 1024);
        left =
            (units 0);
      };
    }
    ∷ record initial { display = block }
    ∷ []

abbrev high-image-tree : Forest
high-image-tree = Element 0 (codes "html") [] (Element 0 (codes "head") [] Nil
    (Element 0 (codes "body") []
    (Element 0 (codes "p") [] (Element 3 (codes "img") (size (codes "width") (codes "10")
    ∷ size (codes "height") (codes "300000") ∷ []) Nil Nil) Nil) Nil)) Nil

high-image-limit : limit_of high-image-styles high-image-tree 11264 ≡ Some (refusals.Limit limits.Length 19200000 16777216)
unfolding same
high-image-limit = refl
