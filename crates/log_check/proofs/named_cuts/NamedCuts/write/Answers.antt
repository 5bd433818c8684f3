use Rattle.std.proofs.Common.{◌≡◌, ◌<◌, length, map, arith, ap}
use Rattle.std.proofs.lemmas.List.{length-map}
use Rattle.bound_log.specs.Meanings.{cut_named}
use Rattle.log_check.specs.Naming.{text_of_stored}
use Rattle.log_check.proofs.NamingLemmas.{text_at, written_again}
use Rattle.log_check.proofs.named_cuts.NamedCuts.write.Goals as goal

pub returns-clause-written : goal.returns-clause-written
returns-clause-written c =
    let items = c.self.inside.cuts.items in
    let one = c.index-cut.result.now in
    let view : map text_of_stored items ≡ c.args.self.now = c.self.view_is in
    let inside : c.args.number < length items = omega (arith, c.requires.number, ap length view, length-map items text_of_stored) in
    written_again (cut_named c.args.self.now c.args.number) one c.args.x.now c.copy_moves.new.x
    (text_at items c.args.self.now c.args.number one view inside c.index-cut.ensures) c.requires.displacement c.copy_moves.ensures.long c.copy_moves.ensures.same
