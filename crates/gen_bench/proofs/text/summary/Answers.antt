use Rattle.std.specs.Prelude.{[], codes}
use Rattle.std.specs.Fmt.{decimal}
use Rattle.plan_report.specs.ReportText.{price_text, counts_text, bound_text}
use Rattle.limit_lines.proofs.Pieces.{seven_pieces}
use Rattle.gen_bench.specs.Bench.{answer_word, bench_text}
use Rattle.gen_bench.proofs.text.summary.Goals as goal

pub returns : goal.returns
unfolding bench_text
returns c =
    seven_pieces [] c.in_ok-text.text.items c.put_seed.new.text.items c.extend_from_slice.new.self.items c.put_answer.new.text.items c.put_price.new.text.items c.put_counts.new.text.items c.put_bound.new.text.items
    (codes "seed ") (decimal c.args.seed) (codes "\ncandidates 28\nunknowns 17\nrows 48\nlimits 58\n") (answer_word c.args.is_decided)
    (price_text (codes "cost ") c.args.price) (counts_text c.args.replayed.now.counts) (bound_text c.args.replayed.now.bound)
    c.in_ok-text.ensures.items c.in_ok-put_seed.ensures c.in_ok-extend_from_slice.ensures.items c.in_ok-put_answer.ensures c.in_ok-put_price.ensures c.in_ok-put_counts.ensures c.in_ok-put_bound.ensures
