use Rattle.std.proofs.Common.{◌≡◌, ◌∙◌, sym, ap, arith, length}
use Rattle.geoplan.specs.declared.shape.WordShape.TheVariants as shape
use Rattle.geoplan.specs.CommandOf.{sources_from}
use Rattle.geoplan.specs.CommandView.{roles_for}
use Rattle.geoplan.proofs.CommandLemmas.{six_words}
use Rattle.geoplan.proofs.command.migration_with_stations.Goals as goal

pub returns-clause-sources : goal.returns-clause-sources
returns-clause-sources c =
    let eight : length c.args.words.now ≡ 8 = omega (arith, c.if-len-ne8.false, c.len.ensures) in
    c.of_migration_with_stations.ensures.sources
    ∙ ap (sources_from (roles_for shape.MigrationWithStations))
    (sym (six_words c.args.words.now c.get-points.result.now c.get-candidates.result.now c.get-redundancy.result.now c.get-log.result.now c.get-new_log.result.now c.get-stations.result.now
    eight c.get-points.ensures c.get-candidates.ensures c.get-redundancy.ensures c.get-log.ensures c.get-new_log.ensures c.get-stations.ensures))
