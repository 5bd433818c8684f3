use Rattle.verdict_cli.specs.Followers.{AreFollowers}
use Rattle.verdict_cli.proofs.followers.followers_of.Given as goal

abbrev pub invariant-limits : goal.invariant-limits
invariant-limits l = AreFollowers l.network l.limit l.followers.items
