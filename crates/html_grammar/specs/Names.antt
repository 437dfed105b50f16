-- What the rules of documents say of names. Names are in lower case.
use Rattle.std.specs.Prelude.{ℕ, List, [], ◌∷◌, Bool, false, ◌&&◌, ◌||◌, codes}
use Rattle.std.specs.Str.{bytes_eq}

-- whether two names are one
unfoldable pub same : List ℕ → List ℕ → Bool
same a b = bytes_eq a b

-- whether a name is one of these
abbrev pub is_in : List ℕ → List (List ℕ) → Bool
is_in name [] = false
is_in name (n ∷ ns) = same name n || is_in name ns

-- the elements that are there once, at their own places
unfoldable pub is_outer : List ℕ → Bool
is_outer name = is_in name (codes "html" ∷ codes "head" ∷ codes "body" ∷ [])

-- elements without content (HTML, "void elements"; this profile's list)
unfoldable pub is_void : List ℕ → Bool
is_void name = is_in name (codes "area" ∷ codes "base" ∷ codes "br" ∷ codes "col" ∷ codes "embed" ∷ codes "hr" ∷ codes "img"
    ∷ codes "input" ∷ codes "link" ∷ codes "meta" ∷ codes "source" ∷ codes "track" ∷ codes "wbr" ∷ [])

-- elements whose content is raw text
unfoldable pub is_raw : List ℕ → Bool
is_raw name = is_in name (codes "style" ∷ codes "script" ∷ codes "title" ∷ [])

-- elements of the head that are no raw text
unfoldable pub is_head_void : List ℕ → Bool
is_head_void name = is_in name (codes "meta" ∷ codes "link" ∷ codes "base" ∷ [])

-- elements whose end tag may be missing
unfoldable pub omits : List ℕ → Bool
omits name = is_in name (codes "p" ∷ codes "li" ∷ codes "dt" ∷ codes "dd" ∷ codes "body" ∷ codes "html" ∷ [])

-- elements whose start tag closes an innermost p
unfoldable pub is_block : List ℕ → Bool
is_block name = is_in name (codes "address" ∷ codes "article" ∷ codes "aside" ∷ codes "blockquote" ∷ codes "details" ∷ codes "div"
    ∷ codes "dl" ∷ codes "fieldset" ∷ codes "figcaption" ∷ codes "figure" ∷ codes "footer" ∷ codes "form" ∷ codes "h1" ∷ codes
    "h2" ∷ codes "h3" ∷ codes "h4" ∷ codes "h5" ∷ codes "h6" ∷ codes "header" ∷ codes "hgroup" ∷ codes "hr" ∷ codes "main"
    ∷ codes "menu" ∷ codes "nav" ∷ codes "ol" ∷ codes "p" ∷ codes "pre" ∷ codes "search" ∷ codes "section" ∷ codes "ul" ∷ [])

-- the parts of lists, whose start tags close an innermost p too
unfoldable pub is_list_part : List ℕ → Bool
is_list_part name = is_in name (codes "li" ∷ codes "dt" ∷ codes "dd" ∷ [])

unfoldable pub is_definition : List ℕ → Bool
is_definition name = is_in name (codes "dt" ∷ codes "dd" ∷ [])

-- a start tag of the first name closes an innermost element of the second
unfoldable pub closes : List ℕ → List ℕ → Bool
closes tag name =
    (same name (codes "p") && (is_block tag || is_list_part tag))
    || ((same name (codes "li") && same tag (codes "li"))
    || (is_definition name && is_definition tag))

-- elements that this profile names and doesn't lay out
unfoldable pub is_refused : List ℕ → Bool
is_refused name = is_in name (codes "table" ∷ codes "caption" ∷ codes "colgroup" ∷ codes "col" ∷ codes "thead" ∷ codes "tbody"
    ∷ codes "tfoot" ∷ codes "tr" ∷ codes "td" ∷ codes "th" ∷ codes "input" ∷ codes "button" ∷ codes "select" ∷ codes
    "textarea" ∷ codes "iframe" ∷ codes "object" ∷ codes "embed" ∷ codes "video" ∷ codes "audio" ∷ codes "canvas" ∷ codes
    "svg" ∷ codes "math" ∷ codes "frameset" ∷ codes "frame" ∷ codes "noframes" ∷ codes "plaintext" ∷ codes "xmp" ∷ codes
    "ruby" ∷ [])
