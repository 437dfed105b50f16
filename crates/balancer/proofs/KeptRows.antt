-- What an engine of rows keeps, after a fill was made anew and its trial nodes were given up.
use Rattle.std.proofs.Common.{◌≡◌, ℕ, List, length, refl, sym, subst}
use Rattle.flow_data.specs.declared.data.FlowsData.{FlowsData}
use Rattle.flow_list.specs.Book.{AllStand, after_uses}
use Rattle.flow_list.specs.Entries.{uses_in}
use Rattle.flow_list.specs.Folds.{fill_told}
use Rattle.flow_list.specs.Rows.{all_rows}
use Rattle.flow_list.specs.Tokens.{Token}
use Rattle.flow_list.specs.declared.book.SizeEntry.{SizeEntry}
use Rattle.frag_pool.specs.Growing.{Grows, KeptGrows}
use Rattle.frag_pool.specs.Nodes.{Nodes, SameTrial, back_to}
use Rattle.frag_pool.specs.Standing.{StandsFor}
use Rattle.frag_pool.proofs.Growth.{given-up, given-up-kept, grows-same-trial, kept-grows-grows}
use Rattle.frag_pool.proofs.Growth.{kept-grows-trans, same-trial-trans}
use Rattle.inner_rows.specs.Filling.{IsFilled, fill_tree}
use Rattle.inner_rows.specs.declared.inner.Filled.{Filled}
use Rattle.kept_fills.specs.Keeping.{IsMade}
use Rattle.range_laws.specs.Entering.{UsesEnter}

module _ (p1 q : Nodes) (n : ℕ) (up : SameTrial (back_to p1 n) q) where
  pub kept-since : KeptGrows p1 q
  kept-since = kept-grows-trans p1 (back_to p1 n) q (given-up-kept p1 (back_to p1 n) n refl)
      (kept-grows-grows (back_to p1 n) q (grows-same-trial (back_to p1 n) q up))

  pub grown-since : (p : Nodes) → n ≡ length p.trial → Grows p p1 → Grows p q
  grown-since p marked grown = grows-same-trial p q
      (same-trial-trans p (back_to p1 n) q (given-up p p1 (back_to p1 n) n marked grown refl) up)

-- what is answered of a fill that was made anew
pub made-anew : (d : FlowsData) → UsesEnter d → (old new : List SizeEntry) (p : Nodes) (r : ℕ) (t : Token) (h : ℕ)
    (out : Filled) →
    IsFilled (fill_told (all_rows d) d r t h) out → uses_in new ≡ after_uses d (uses_in old) ((all_rows d).fill r t h).uses →
    StandsFor p out.frag (fill_tree d r t h) → IsMade d new p r t h out
made-anew d enter old new p r t h out told uses frag = record {
  told = told;
  uses = subst (λ b. AllStand b ((all_rows d).fill r t h).uses) (sym uses)
      (enter.stand (uses_in old) ((all_rows d).fill r t h).uses);
  frag = frag;
}
