use Rattle.std.proofs.Common.{◌∙◌, List, ℕ, position, sym, ap}
use Rattle.std.specs.Prelude.{is_some}
use Rattle.std.specs.List.{list_any}
use Rattle.std.specs.Str.{bytes_eq}
use Rattle.log_migrate.proofs.NameLemmas.{any_by_keys, place_by_keys}
use Rattle.log_migrate.proofs.names.Names.find.Goals as goal

pub returns-in-Some-clause-place : goal.returns-in-Some-clause-place
returns-in-Some-clause-place c =
    sym c.in-Some.is ∙ c.get_index_of.ensures.index ∙ place_by_keys c.args.name.now c.self.inside.names.keys
    ∙ ap (λ (lines : List (List ℕ)). position (bytes_eq c.args.name.now) lines) c.self.view_is

pub returns-in-Some-clause-given : goal.returns-in-Some-clause-given
returns-in-Some-clause-given c =
    ap is_some (sym c.in-Some.is) ∙ c.get_index_of.ensures.found ∙ any_by_keys c.args.name.now c.self.inside.names.keys
    ∙ ap (λ (lines : List (List ℕ)). list_any (bytes_eq c.args.name.now) lines) c.self.view_is

pub returns-in-None-clause-place : goal.returns-in-None-clause-place
returns-in-None-clause-place c =
    sym c.in-None.is ∙ c.get_index_of.ensures.index ∙ place_by_keys c.args.name.now c.self.inside.names.keys
    ∙ ap (λ (lines : List (List ℕ)). position (bytes_eq c.args.name.now) lines) c.self.view_is

pub returns-in-None-clause-given : goal.returns-in-None-clause-given
returns-in-None-clause-given c =
    ap is_some (sym c.in-None.is) ∙ c.get_index_of.ensures.found ∙ any_by_keys c.args.name.now c.self.inside.names.keys
    ∙ ap (λ (lines : List (List ℕ)). list_any (bytes_eq c.args.name.now) lines) c.self.view_is
