use Rattle.std.proofs.Common.{◌∙◌, ◌++◌, [], ◌∷◌, ℕ, ℤ, pos, List, ap}
use Rattle.net_build.proofs.EntryFacts.{square-none, square-some}
use Rattle.net_build.proofs.point_limits.square_on.Goals as goal
use Rattle.net_build.proofs.point_limits.square_on.Goals.{in-Some+in_ok-push, in_default}

pub returns : goal.returns
returns c =
    elim c.match-find.branch [
      | in-Some+in_ok-push w ↦
          square-some c.args.columns.now (record { point = c.args.point; component = c.args.component }) w.in-Some.column c.find.result c.match-find.entries.items
          c.find.ensures.found w.in-Some.is
          (ap (λ v. v.items) w.entries-is ∙ w.in_ok-push.ensures.items ∙ ap (λ (l : List (ℕ × ℤ)). l ++ (w.in-Some.column, pos 1) ∷ []) c.new-entries.ensures.items)
      | in_default w ↦
          square-none c.args.columns.now (record { point = c.args.point; component = c.args.component }) c.find.result c.match-find.entries.items
          c.find.ensures.found w.in_default.is (ap (λ v. v.items) w.entries-is ∙ c.new-entries.ensures.items)
    ]
