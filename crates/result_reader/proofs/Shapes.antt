-- Lines, read word by word, are those of the definitions.
use Rattle.std.proofs.Common.{◌≡◌, ℕ, ◌+◌, ◌<◌, Bool, true, false, List, [], ◌∷◌, ◌++◌, length, refl, sym, ◌∙◌, ap, cond}
use Rattle.std.proofs.Common.{Option, Some, None}
use Rattle.std.specs.Prelude.{codes}
use Rattle.std.specs.Str.{bytes_eq}
use Rattle.std.proofs.lemmas.List.{append_assoc, append-nil}
use Rattle.flow_list.specs.Column.{ColumnLine}
use Rattle.flow_list.specs.Tokens.{Token}
use Rattle.result_laws.specs.Reading.{CertLine, column, close, range_of_words, head_of_size, head_of_row, head_of_auto}
use Rattle.result_laws.specs.Reading.{reason_of_words, column_of_words}
use Rattle.result_laws.specs.Reading.{cites_of, line_of_words, line_of}
use Rattle.result_laws.specs.Words.{◌>>=◌, number_of, small_of, numbers_of, dash_or, end_of_word, parted}
use Rattle.result_reader.specs.Lines.{size_line, row_line, auto_line, column_front, other_of_words}
use Rattle.result_reader.specs.Words.{behind, two_of}
use Rattle.result_reader.proofs.Parts.{more-parts, none-behind}

size-shape : (ws : List (List ℕ)) → size_line ws ≡ head_of_size ws
size-shape [] = refl
size-shape (a ∷ []) = refl
size-shape (a ∷ b ∷ []) = refl
size-shape (a ∷ b ∷ c ∷ []) = refl
size-shape (a ∷ b ∷ c ∷ d ∷ ws) = refl

row-shape : (ws : List (List ℕ)) → row_line ws ≡ head_of_row ws
row-shape [] = refl
row-shape (a ∷ []) = refl
row-shape (a ∷ b ∷ []) = refl
row-shape (a ∷ b ∷ c ∷ []) = refl
row-shape (a ∷ b ∷ c ∷ d ∷ []) = refl
row-shape (a ∷ b ∷ c ∷ d ∷ e ∷ ws) = refl

auto-shape : (ws : List (List ℕ)) → auto_line ws ≡ head_of_auto ws
auto-shape [] = refl
auto-shape (a ∷ []) = refl
auto-shape (a ∷ b ∷ []) = refl
auto-shape (a ∷ b ∷ c ∷ []) = refl
auto-shape (a ∷ b ∷ c ∷ d ∷ ws) = refl

-- with two words or more there is a reason only with two
pub no-reason : (a : List ℕ) (rest : List ℕ) → 0 < length rest → two_of (a ∷ behind 32 rest) ≡ None
    → reason_of_words (a ∷ behind 32 rest) ≡ None
no-reason a rest lt e = let k = more-parts 32 rest lt in go k.0 k.1 k.2
  where
    go : (w : List ℕ) (ws : List (List ℕ)) → behind 32 rest ≡ w ∷ ws → reason_of_words (a ∷ behind 32 rest) ≡ None
    go w [] is = absurd (let f = sym (ap (λ (ws : List (List ℕ)). two_of (a ∷ ws)) is) ∙ e in cc)
    go w (x ∷ ws) is = ap (λ (ws : List (List ℕ)). reason_of_words (a ∷ ws)) is

abbrev with_sizes : Bool → ColumnLine × List (List ℕ) → Option CertLine
with_sizes cites x = cites_of cites x.1 >>= λ sizes. Some (column (record { line = x.0; cites = sizes }))

pub column-shape : (cites : Bool) (ws : List (List ℕ)) → (column_front ws >>= with_sizes cites) ≡ column_of_words cites ws
column-shape cites [] = refl
column-shape cites (a ∷ []) = refl
column-shape cites (a ∷ b ∷ []) = refl
column-shape cites (a ∷ b ∷ c ∷ rest) = go (small_of a) (end_of_word b) (dash_or small_of c)
  where
    go : (o : Option ℕ) (p : Option (Option Token)) (q : Option (Option ℕ))
        → ((o >>= λ depth. p >>= λ end. q >>= λ stop. Some (record { depth = depth; end = end; stop = stop }, rest))
        >>= with_sizes cites)
        ≡ (o >>= λ depth. p >>= λ end. q >>= λ stop. cites_of cites rest >>= λ cited.
        Some (column (record { line = record { depth = depth; end = end; stop = stop }; cites = cited })))
    go None p q = refl
    go (Some depth) None q = refl
    go (Some depth) (Some end) None = refl
    go (Some depth) (Some end) (Some stop) = refl

pub column-off : (cites : Bool) (ws : List (List ℕ)) → column_front ws ≡ None → column_of_words cites ws ≡ None
column-off cites ws e = sym (column-shape cites ws) ∙ ap (λ (o : Option (ColumnLine × List (List ℕ))). o >>= with_sizes cites) e

pub column-on : (cites : Bool) (ws rest : List (List ℕ)) (l : ColumnLine) → column_front ws ≡ Some (l, rest)
    → column_of_words cites ws ≡ with_sizes cites (l, rest)
column-on cites ws rest l e =
    sym (column-shape cites ws) ∙ ap (λ (o : Option (ColumnLine × List (List ℕ))). o >>= with_sizes cites) e

-- the sizes that a column line cites
pub no-cites : (rest : List ℕ) → 0 < length rest → cites_of false (behind 32 rest) ≡ None
no-cites rest lt = let k = more-parts 32 rest lt in ap (cites_of false) k.2

pub cites-second : (ws : List (List ℕ)) → cites_of true ws ≡ numbers_of ws
cites-second [] = refl
cites-second (w ∷ ws) = refl

-- ---- a line

pub close-line : (cites : Bool) (text : List ℕ) → bytes_eq text (codes "end") ≡ true → line_of cites text ≡ Some close
unfolding line_of
close-line cites text e = rw e refl

words-line : (cites : Bool) (text : List ℕ) → bytes_eq text (codes "end") ≡ false
    → line_of cites text ≡ line_of_words cites (parted 32 text)
unfolding line_of
words-line cites text e = rw e refl

abbrev others : List ℕ → List (List ℕ) → Option CertLine → Option CertLine → Option CertLine → Option CertLine
others w ws a b c = cond (bytes_eq w (codes "range")) (range_of_words ws)
    (cond (bytes_eq w (codes "size")) a (cond (bytes_eq w (codes "row")) b (cond (bytes_eq w (codes "auto")) c None)))

pub column-line : (cites : Bool) (text w : List ℕ) (ws : List (List ℕ)) → bytes_eq text (codes "end") ≡ false
    → parted 32 text ≡ w ∷ ws → bytes_eq w (codes "col") ≡ true → line_of cites text ≡ column_of_words cites ws
column-line cites text w ws e is col =
    words-line cites text e ∙ ap (line_of_words cites) is
    ∙ ap (λ (t : Bool). cond t (column_of_words cites ws) (others w ws (head_of_size ws) (head_of_row ws) (head_of_auto ws))) col

pub other-line : (cites : Bool) (text w : List ℕ) (ws : List (List ℕ)) → bytes_eq text (codes "end") ≡ false
    → parted 32 text ≡ w ∷ ws → bytes_eq w (codes "col") ≡ false → line_of cites text ≡ other_of_words w ws
other-line cites text w ws e is col =
    words-line cites text e ∙ ap (line_of_words cites) is
    ∙ ap (λ (t : Bool). cond t (column_of_words cites ws) (others w ws (head_of_size ws) (head_of_row ws) (head_of_auto ws))) col
    ∙ ap (λ (o : Option CertLine). others w ws o (head_of_row ws) (head_of_auto ws)) (sym (size-shape ws))
    ∙ ap (λ (o : Option CertLine). others w ws (size_line ws) o (head_of_auto ws)) (sym (row-shape ws))
    ∙ ap (λ (o : Option CertLine). others w ws (size_line ws) (row_line ws) o) (sym (auto-shape ws))

-- ---- numbers, one after another

abbrev pub onto_sizes : List ℕ → List ℕ → Option (List ℕ)
onto_sizes sizes ns = Some (sizes ++ ns)

-- one number more
pub number-more : (sizes : List ℕ) (w : List ℕ) (ws : List (List ℕ)) (n : ℕ) → number_of w ≡ Some n
    → (numbers_of (w ∷ ws) >>= onto_sizes sizes) ≡ (numbers_of ws >>= onto_sizes (sizes ++ n ∷ []))
number-more sizes w ws n e = rw e (go (numbers_of ws))
  where
    go : (o : Option (List ℕ)) → ((o >>= λ ns. Some (n ∷ ns)) >>= onto_sizes sizes) ≡ (o >>= onto_sizes (sizes ++ n ∷ []))
    go None = refl
    go (Some ns) = ap (λ (xs : List ℕ). Some xs) (sym (append_assoc sizes (n ∷ []) ns))

pub number-off : (sizes : List ℕ) (w : List ℕ) (ws : List (List ℕ)) → number_of w ≡ None
    → (numbers_of (w ∷ ws) >>= onto_sizes sizes) ≡ None
number-off sizes w ws e = rw e refl

pub numbers-done : (sizes : List ℕ) → (numbers_of [] >>= onto_sizes sizes) ≡ Some sizes
numbers-done sizes = ap (λ (xs : List ℕ). Some xs) (append-nil sizes)

pub ruleset line_rules = (
  close-line,
  column-line,
  other-line,
  column-off,
  column-on,
  no-cites,
  cites-second,
  no-reason,
  number-more,
  number-off,
  numbers-done,
  none-behind,
)
