use Rattle.log_check.proofs.FedLemmas.{fed_read}
use Rattle.geoplan.proofs.PartLemmas.{ReportsReplay-done, ReportsReplay-fault}
use Rattle.geoplan.proofs.check.replayed.Goals as goal

pub returns-in-Ok : goal.returns-in-Ok
returns-in-Ok c = λ log fed few.
    ReportsReplay-done c.args.replayer.network log c.in-Ok.done c.made.result.status c.made.result.text.items c.checked_report-text.result
    (c.in-Ok.ensures log (fed_read log c.args.replayer fed) few) c.checked_report-text.ensures c.made.ensures

pub returns-in-Err : goal.returns-in-Err
returns-in-Err c = λ log fed few.
    ReportsReplay-fault c.args.replayer.network log c.in-Err.fault c.made-in-Err.result.status c.made-in-Err.result.text.items c.log_refusal.result
    (c.in-Err.ensures log (fed_read log c.args.replayer fed) few) c.log_refusal.ensures c.made-in-Err.ensures
