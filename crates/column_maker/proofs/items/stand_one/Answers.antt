use Rattle.std.proofs.Common.{◌≡◌, ◌∙◌, [], ◌∷◌, sym, true}
use Rattle.std.proofs.lemmas.List.Elements.{All-head, All-nil}
use Rattle.flow_list.specs.Book.{after_uses}
use Rattle.flow_list.specs.Certificate.{stands_in}
use Rattle.flow_list.specs.Entries.{uses_in}
use Rattle.frag_pool.proofs.Growth.{grows-refl, grows-same-trial, grows-trans}
use Rattle.column_maker.proofs.Rows.{one-more-made}
use Rattle.column_maker.proofs.items.stand_one.Goals as goal

pub returns-in_err-stand-in-Atom-clause-grown : goal.returns-in_err-stand-in-Atom-clause-grown
returns-in_err-stand-in-Atom-clause-grown g c = grows-refl c.args.pool.now

pub returns-in_ok-stand-in-Atom-clause-grown : goal.returns-in_ok-stand-in-Atom-clause-grown
returns-in_ok-stand-in-Atom-clause-grown g c = grows-refl c.args.pool.now

pub returns-in_ok-stand_row-in-Row-clause-made : goal.returns-in_ok-stand_row-in-Row-clause-made
returns-in_ok-stand_row-in-Row-clause-made g c =
    rw c.in_ok-stand_row-in-Row.ensures.rows
    (one-more-made c.args.flows.now c.args.pool.now c.whole_row.new.pool
    (grows-trans c.args.pool.now c.size.new.pool c.whole_row.new.pool
    (grows-same-trial c.args.pool.now c.size.new.pool c.in_ok-height-in-Row.ensures.pool)
    c.in_ok-made-in-Row.ensures.grown)
    _ _ c.requires.made (rw c.copy.ensures c.in_ok-made-in-Row.ensures.frag))

pub returns-in_ok-stand-in-Atom-clause-uses : goal.returns-in_ok-stand-in-Atom-clause-uses
returns-in_ok-stand-in-Atom-clause-uses g c =
    rw c.in-Atom.is (sym ((c.uses_enter.ensures c.args.flows.now).none_new (uses_in c.args.book.now) []
    (All-nil (λ u. stands_in (uses_in c.args.book.now) u ≡ true))))

pub returns-in_ok-stand_row-in-Row-clause-uses : goal.returns-in_ok-stand_row-in-Row-clause-uses
returns-in_ok-stand_row-in-Row-clause-uses g c =
    rw c.in-Row.is (c.in_ok-made-in-Row.ensures.uses ∙ c.in_ok-height-in-Row.ensures.uses)

pub whole_row-requires-clause-stands : goal.whole_row-requires-clause-stands
whole_row-requires-clause-stands g c =
    rw c.in_ok-height-in-Row.ensures.uses
    (All-head (λ u. stands_in (after_uses c.args.flows.now (uses_in c.args.book.now) ((c.in-Row.row, c.args.from.now) ∷ [])) u
    ≡ true) _ []
    ((c.uses_enter.ensures c.args.flows.now).stand (uses_in c.args.book.now) ((c.in-Row.row, c.args.from.now) ∷ [])))
