use Rattle.std.proofs.Common.{◌≡◌, [], ap, sym, ◌∙◌, Err}
use Rattle.geoplan.proofs.PrintLemmas.{no_bytes, some_bytes, Prints-nothing, Prints-failed, Prints-out}
use Rattle.geoplan.proofs.run.print.Goals as goal

pub returns-then-is_empty : goal.returns-then-is_empty
returns-then-is_empty g c =
    let none : c.args.outcome.text.items ≡ [] = sym c.as_slice.ensures.value ∙ no_bytes c.as_slice.result.now (sym c.is_empty.ensures ∙ c.if-is_empty.true) in
    Prints-nothing c.args.outcome.status c.args.outcome.text.items (g.O.Sink.state c.args.out.now) none

pub returns-in-Err-Failed : goal.returns-in-Err-Failed
returns-in-Err-Failed g c =
    Prints-failed c.args.outcome.status c.args.outcome.text.items c.as_slice-2.result.now c.after_failed_put.result c.in-Err-Failed.ensures.refused.0
    (g.O.Sink.state c.args.out.now) (g.O.Sink.state c.put.new.self)
    (λ none. some_bytes c.as_slice.result.now (sym c.is_empty.ensures ∙ c.if-is_empty.false) (c.as_slice.ensures.value ∙ none))
    c.after_failed_put.ensures c.as_slice-2.ensures.value (c.put.ensures.cause.failed (c.in-Err-Failed.is ∙ ap Err c.in-Err-Failed.field-0-is)) c.in-Err-Failed.ensures.refused.1

pub returns : goal.returns
returns g c =
    Prints-out c.args.outcome.status c.args.outcome.text.items c.as_slice-2.result.now c.in-Err-NoMemory.ensures.refused.0
    (g.O.Sink.state c.args.out.now) (g.O.Sink.state c.put.new.self)
    (λ none. some_bytes c.as_slice.result.now (sym c.is_empty.ensures ∙ c.if-is_empty.false) (c.as_slice.ensures.value ∙ none))
    c.as_slice-2.ensures.value (c.put.ensures.cause.no_memory (c.in-Err-NoMemory.is ∙ ap Err c.in-Err-NoMemory.field-0-is)) c.in-Err-NoMemory.ensures.refused.1
