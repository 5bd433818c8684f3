use Rattle.std.proofs.Common.{◌≡◌, ◌∙◌, IfSome, IfNone, Some, None, sym, subst}
use Rattle.lent_parts.specs.Walks.{line_of}
use Rattle.verdict_cli.specs.Request.{request_seen}
use Rattle.verdict_cli.proofs.Requests.{with_header, without_header, without_line}
use Rattle.verdict_cli.proofs.request.read_request.Goals as goal

pub returns-in_default-clause-none : goal.returns-in_default-clause-none
returns-in_default-clause-none c = without_line c.args.input.now (sym c.lines.ensures ∙ c.in_default.ensures.steps.0)

pub returns-in_default-read_header-clause-none : goal.returns-in_default-read_header-clause-none
returns-in_default-read_header-clause-none c =
    without_header c.args.input.now (line_of c.in-Some.line) c.next.new.self (sym c.lines.ensures ∙ c.in-Some.ensures.steps) c.in_default-read_header.ensures.none

pub returns-clause-some : goal.returns-clause-some
returns-clause-some c =
    let is = with_header c.args.input.now (line_of c.in-Some.line) c.next.new.self c.in-Some-read_header.header c.after.result.now
    (sym c.lines.ensures ∙ c.in-Some.ensures.steps) c.in-Some-read_header.ensures.some c.after.ensures in
    subst (λ o. IfSome c.read_parts.result (λ request. o ≡ Some (request_seen request))) (sym is) c.read_parts.ensures.some

pub returns-clause-none : goal.returns-clause-none
returns-clause-none c =
    let is = with_header c.args.input.now (line_of c.in-Some.line) c.next.new.self c.in-Some-read_header.header c.after.result.now
    (sym c.lines.ensures ∙ c.in-Some.ensures.steps) c.in-Some-read_header.ensures.some c.after.ensures in
    subst (λ o. IfNone c.read_parts.result (o ≡ None)) (sym is) c.read_parts.ensures.none
