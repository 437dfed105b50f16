use Rattle.std.proofs.Common.{◌∙◌, sym, refl, ap}
use Rattle.flow_list.specs.Data.{RowInfo}
use Rattle.frag_pool.proofs.Growth.{grows-same-trial, grows-trans, kept-grows-grows, stands-live}
use Rattle.inner_rows.proofs.Calls.{extends-refl}
use Rattle.container_layout.proofs.Laying.{uses-count}
use Rattle.container_layout.proofs.lay.kept_row.Goals as goal

pub promote-requires : goal.promote-requires
promote-requires g c = stands-live _ _ _ c.in_ok-made.ensures.frag

pub returns-clause-laid : goal.returns-clause-laid
returns-clause-laid g c = record {
  row = refl;
  available = refl;
  height = c.in_ok-made.ensures.height;
  auto = ap (λ (i : RowInfo). i.auto) c.row_at.ensures.same;
  fits = c.in_ok-made.ensures.fits;
  ranges = c.in_ok-made.ensures.ranges;
  kept = c.in_ok-frag.ensures.kept;
  frag = c.in_ok-frag.ensures.equal _ c.in_ok-made.ensures.frag;
}

pub returns-clause-before : goal.returns-clause-before
returns-clause-before g c = c.count.ensures ∙ sym (uses-count _)

pub returns-clause-engine : goal.returns-clause-engine
returns-clause-engine g c =
    g.met.I.InnerRows.stays c.make_row.new.inner c.args.flows.now c.make_row.new.book c.make_row.new.book c.make_row.new.pool
    c.promote.new.self c.in_ok-made.ensures.engine (extends-refl _)
    (kept-grows-grows _ _ (grows-same-trial _ _ c.in_ok-frag.ensures.trial))

pub returns-clause-grown : goal.returns-clause-grown
returns-clause-grown g c = grows-trans _ _ _ c.in_ok-made.ensures.grown (grows-same-trial _ _ c.in_ok-frag.ensures.trial)

pub returns-in_err-frag-clause-engine : goal.returns-in_err-frag-clause-engine
returns-in_err-frag-clause-engine g c =
    g.met.I.InnerRows.stays c.make_row.new.inner c.args.flows.now c.make_row.new.book c.make_row.new.book c.make_row.new.pool
    c.promote.new.self c.in_ok-made.ensures.engine (extends-refl _)
    (kept-grows-grows _ _ (grows-same-trial _ _ c.in_err-frag.ensures.trial))

pub returns-in_err-frag-clause-grown : goal.returns-in_err-frag-clause-grown
returns-in_err-frag-clause-grown g c = grows-trans _ _ _ c.in_ok-made.ensures.grown
    (grows-same-trial _ _ c.in_err-frag.ensures.trial)
