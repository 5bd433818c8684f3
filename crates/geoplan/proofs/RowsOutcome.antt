-- What stands once the unknowns and rows are listed.
use Rattle.std.proofs.Common.{◌≡◌, inl, inr, ℕ, List, sym, subst}
use Rattle.shelf_io.specs.States.{ShelfState}
use Rattle.geoplan.specs.declared.status.Status.{Status}
use Rattle.geoplan.specs.declared.status.Status.TheVariants as status
use Rattle.geoplan.specs.declared.verb.Verb.{Verb}
use Rattle.geoplan.specs.declared.verb.Verb.TheVariants as verb
use Rattle.geoplan.specs.CommandOf.{SourcesOf}
use Rattle.geoplan.specs.Loading.{LoadsTables, Loads}
use Rattle.geoplan.specs.Reporting.{Ends}
use Rattle.geoplan.specs.Standing.{IsOutcomeOf}
use Rattle.geoplan.specs.Tables.{TablesOf}
use Rattle.geoplan.specs.Texts.{tables_rows_text}
use Rattle.geoplan.proofs.LoadLemmas.{ReadsAll-none, Loads-all}
use Rattle.geoplan.proofs.RowsFacts.{reads_tables}
use Rattle.geoplan.proofs.StandLemmas.{out_loaded}

pub IsOutcomeOf-listed : (sources : SourcesOf) (tables : TablesOf) (before now : ShelfState) → Loads (record { verb = verb.Rows; sources = sources }) tables before now → (ends : Status) (text : List ℕ) → Ends status.Found (tables_rows_text tables) ends text → IsOutcomeOf (record { verb = verb.Rows; sources = sources }) before now ends text
IsOutcomeOf-listed sources tables before now has ends text (inl (is, said)) =
    subst (λ s. IsOutcomeOf (record { verb = verb.Rows; sources = sources }) before now s text) (sym is) (tables, has.input, record { held = has.held; quiet = has.quiet; printed = said })
IsOutcomeOf-listed sources tables before now has ends text (inr out) = out_loaded (record { verb = verb.Rows; sources = sources }) tables before now has ends text out

-- .. of the command that it is known to be
pub IsOutcomeOf-rows : (which : Verb) (sources : SourcesOf) (tables : TablesOf) (before now : ShelfState) (ends : Status) (text : List ℕ) → which ≡ verb.Rows →
    LoadsTables (record { verb = which; sources = sources }) tables before now → Ends status.Found (tables_rows_text tables) ends text → IsOutcomeOf (record { verb = which; sources = sources }) before now ends text
IsOutcomeOf-rows which sources tables before now ends text is has listed =
    let known : LoadsTables (record { verb = verb.Rows; sources = sources }) tables before now =
    subst (λ v. LoadsTables (record { verb = v; sources = sources }) tables before now) is has in
    let all = Loads-all (record { verb = verb.Rows; sources = sources }) reads_tables tables before now now known (ReadsAll-none now) in
    subst (λ v. IsOutcomeOf (record { verb = v; sources = sources }) before now ends text) (sym is) (IsOutcomeOf-listed sources tables before now all ends text listed)
