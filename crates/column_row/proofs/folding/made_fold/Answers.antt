use Rattle.frag_pool.proofs.Growth.{kept-grows-grows}
use Rattle.frag_maker.proofs.Growing.{they-live}
use Rattle.inner_rows.proofs.Calls.{extends-refl}
use Rattle.column_row.proofs.folding.made_fold.Goals as goal

pub piece_of-requires : goal.piece_of-requires
piece_of-requires g c = they-live c.made_columns.new.pool c.in_ok-told.told.frags _ c.in_ok-told.ensures.frags

pub returns-in_err-frag-clause-engine : goal.returns-in_err-frag-clause-engine
returns-in_err-frag-clause-engine g c =
    g.met.I.InnerRows.stays c.made_columns.new.inner c.args.flows.now c.made_columns.new.book c.made_columns.new.book
    c.made_columns.new.pool c.piece_of.new.pool c.in_ok-told.ensures.engine (extends-refl c.made_columns.new.book)
    (kept-grows-grows c.made_columns.new.pool c.piece_of.new.pool c.in_err-frag.ensures.grown)

pub returns-clause-engine : goal.returns-clause-engine
returns-clause-engine g c =
    g.met.I.InnerRows.stays c.made_columns.new.inner c.args.flows.now c.made_columns.new.book c.made_columns.new.book
    c.made_columns.new.pool c.piece_of.new.pool c.in_ok-told.ensures.engine (extends-refl c.made_columns.new.book)
    (kept-grows-grows c.made_columns.new.pool c.piece_of.new.pool c.in_ok-frag.ensures.grown)
