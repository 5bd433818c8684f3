use Rattle.branch_bound.specs.Cuts.{named_cuts}
use Rattle.branch_bound.specs.Naming.{text_at}
use Rattle.branch_bound.proofs.PutLemmas.{puts_use}
use Rattle.branch_bound.proofs.line.put_cut.Goals as goal

pub returns-clause-put : goal.returns-clause-put
returns-clause-put c =
    puts_use c.args.network.now (named_cuts c.args.cuts.now) c.name.new.self c.in_ok-name.name (text_at c.args.cuts.now.pool c.args.number)
    c.args.out.now.items c.name.new.out.items c.put_use.new.out.items c.in_ok-name.ensures.cuts c.in_ok-name.ensures.puts c.in_ok-name.ensures.name c.in_ok-put_use.ensures.put
