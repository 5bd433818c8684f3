use Rattle.std.proofs.Common.{sym, ◌∙◌}
use Rattle.geoplan.proofs.FaultLemmas.{unwritten-of, others-of, untouched-of, shelf_told-of, out_told-of}
use Rattle.geoplan.proofs.MemoryLemmas.{ran_out-of, complete-of, refused-of, refusals-of}
use Rattle.geoplan.proofs.TopLemmas.{done-of, none-of, undecided-of, words-of, refused_table-of, unread-of, log_refused-of, too_long-of, cuts_refused-of}
use Rattle.geoplan.proofs.top.geoplan.Goals as goal

pub returns-clause-done : goal.returns-clause-done
returns-clause-done g c = λ is.
    done-of c.args.words.now c.run.result
    (g.H.Shelf.state c.args.shelf.now) (g.H.Shelf.state c.run.new.shelf) (g.O.Sink.state c.args.out.now) (g.O.Sink.state c.run.new.out)
    c.run.ensures (sym c.code.ensures ∙ is)

pub returns-clause-none : goal.returns-clause-none
returns-clause-none g c = λ is.
    none-of c.args.words.now c.run.result
    (g.H.Shelf.state c.args.shelf.now) (g.H.Shelf.state c.run.new.shelf) (g.O.Sink.state c.args.out.now) (g.O.Sink.state c.run.new.out)
    c.run.ensures (sym c.code.ensures ∙ is)

pub returns-clause-words : goal.returns-clause-words
returns-clause-words g c = λ is.
    words-of c.args.words.now c.run.result
    (g.H.Shelf.state c.args.shelf.now) (g.H.Shelf.state c.run.new.shelf) (g.O.Sink.state c.args.out.now) (g.O.Sink.state c.run.new.out)
    c.run.ensures (sym c.code.ensures ∙ is)

pub returns-clause-refused_table : goal.returns-clause-refused_table
returns-clause-refused_table g c = λ is.
    refused_table-of c.args.words.now c.run.result
    (g.H.Shelf.state c.args.shelf.now) (g.H.Shelf.state c.run.new.shelf) (g.O.Sink.state c.args.out.now) (g.O.Sink.state c.run.new.out)
    c.run.ensures (sym c.code.ensures ∙ is)

pub returns-clause-undecided : goal.returns-clause-undecided
returns-clause-undecided g c = λ is.
    undecided-of c.args.words.now c.run.result
    (g.H.Shelf.state c.args.shelf.now) (g.H.Shelf.state c.run.new.shelf) (g.O.Sink.state c.args.out.now) (g.O.Sink.state c.run.new.out)
    c.run.ensures (sym c.code.ensures ∙ is)

pub returns-clause-unread : goal.returns-clause-unread
returns-clause-unread g c = λ is.
    unread-of c.args.words.now c.run.result
    (g.H.Shelf.state c.args.shelf.now) (g.H.Shelf.state c.run.new.shelf) (g.O.Sink.state c.args.out.now) (g.O.Sink.state c.run.new.out)
    c.run.ensures (sym c.code.ensures ∙ is)

pub returns-clause-unwritten : goal.returns-clause-unwritten
returns-clause-unwritten g c = λ is.
    unwritten-of c.args.words.now c.run.result
    (g.H.Shelf.state c.args.shelf.now) (g.H.Shelf.state c.run.new.shelf) (g.O.Sink.state c.args.out.now) (g.O.Sink.state c.run.new.out)
    c.run.ensures (sym c.code.ensures ∙ is)

pub returns-clause-too_long : goal.returns-clause-too_long
returns-clause-too_long g c = λ is.
    too_long-of c.args.words.now c.run.result
    (g.H.Shelf.state c.args.shelf.now) (g.H.Shelf.state c.run.new.shelf) (g.O.Sink.state c.args.out.now) (g.O.Sink.state c.run.new.out)
    c.run.ensures (sym c.code.ensures ∙ is)

pub returns-clause-log_refused : goal.returns-clause-log_refused
returns-clause-log_refused g c = λ is.
    log_refused-of c.args.words.now c.run.result
    (g.H.Shelf.state c.args.shelf.now) (g.H.Shelf.state c.run.new.shelf) (g.O.Sink.state c.args.out.now) (g.O.Sink.state c.run.new.out)
    c.run.ensures (sym c.code.ensures ∙ is)

pub returns-clause-cuts_refused : goal.returns-clause-cuts_refused
returns-clause-cuts_refused g c = λ is.
    cuts_refused-of c.args.words.now c.run.result
    (g.H.Shelf.state c.args.shelf.now) (g.H.Shelf.state c.run.new.shelf) (g.O.Sink.state c.args.out.now) (g.O.Sink.state c.run.new.out)
    c.run.ensures (sym c.code.ensures ∙ is)

pub returns-clause-refused : goal.returns-clause-refused
returns-clause-refused g c = λ none.
    rw c.code.ensures (refused-of c.args.words.now c.run.result
    (g.H.Shelf.state c.args.shelf.now) (g.H.Shelf.state c.run.new.shelf) (g.O.Sink.state c.args.out.now) (g.O.Sink.state c.run.new.out)
    c.run.ensures none)

pub returns-clause-out_of_memory : goal.returns-clause-out_of_memory
returns-clause-out_of_memory g c = λ is.
    ran_out-of c.args.words.now c.run.result
    (g.H.Shelf.state c.args.shelf.now) (g.H.Shelf.state c.run.new.shelf) (g.O.Sink.state c.args.out.now) (g.O.Sink.state c.run.new.out)
    c.run.ensures (sym c.code.ensures ∙ is)

pub returns-clause-complete : goal.returns-clause-complete
returns-clause-complete g c = λ command is quiet quiet_sink files told.
    rw c.code.ensures (complete-of c.args.words.now c.run.result
    (g.H.Shelf.state c.args.shelf.now) (g.H.Shelf.state c.run.new.shelf) (g.O.Sink.state c.args.out.now) (g.O.Sink.state c.run.new.out)
    c.run.ensures command is quiet quiet_sink files told)

pub returns-clause-refusals : goal.returns-clause-refusals
returns-clause-refusals g c = λ command is files told.
    rw c.code.ensures (refusals-of c.args.words.now c.run.result
    (g.H.Shelf.state c.args.shelf.now) (g.H.Shelf.state c.run.new.shelf) (g.O.Sink.state c.args.out.now) (g.O.Sink.state c.run.new.out)
    c.run.ensures command is files told)

pub returns-clause-others : goal.returns-clause-others
returns-clause-others g c =
    others-of c.args.words.now c.run.result
    (g.H.Shelf.state c.args.shelf.now) (g.H.Shelf.state c.run.new.shelf) (g.O.Sink.state c.args.out.now) (g.O.Sink.state c.run.new.out)
    c.run.ensures

pub returns-clause-untouched : goal.returns-clause-untouched
returns-clause-untouched g c =
    untouched-of c.args.words.now c.run.result
    (g.H.Shelf.state c.args.shelf.now) (g.H.Shelf.state c.run.new.shelf) (g.O.Sink.state c.args.out.now) (g.O.Sink.state c.run.new.out)
    c.run.ensures

pub returns-clause-shelf_told : goal.returns-clause-shelf_told
returns-clause-shelf_told g c =
    shelf_told-of c.args.words.now c.run.result
    (g.H.Shelf.state c.args.shelf.now) (g.H.Shelf.state c.run.new.shelf) (g.O.Sink.state c.args.out.now) (g.O.Sink.state c.run.new.out)
    c.run.ensures

pub returns-clause-out_told : goal.returns-clause-out_told
returns-clause-out_told g c =
    out_told-of c.run.ensures.begun c.run.result c.run.ensures.text (g.O.Sink.state c.args.out.now) (g.O.Sink.state c.run.new.out) c.run.ensures.printed
