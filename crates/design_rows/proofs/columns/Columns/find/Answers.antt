use Rattle.std.proofs.Common.{◌≡◌, ◌∙◌, List, Some, None, sym, refl, ap, arith}
use Rattle.std.proofs.lemmas.Option.{slice_get_within}
use Rattle.geo_model.specs.declared.network.Unknown.{Unknown}
use Rattle.design_rows.specs.Unknowns.{number_of}
use Rattle.design_rows.proofs.PlaceFacts.{number-at, number-none, number-of-at}
use Rattle.design_rows.proofs.columns.Columns.find.Goals as goal

pub overflow_cast-result : goal.overflow_cast-result
overflow_cast-result c =
    let place : number_of c.self.inside.unknowns.items c.args.unknown ≡ Some c.in-Some.place =
    ap (λ (xs : List Unknown). number_of xs c.args.unknown) (sym c.as_slice.ensures.value) ∙ sym c.place_in.ensures ∙ c.in-Some.is in
    let within = slice_get_within c.self.inside.unknowns.items c.in-Some.place c.args.unknown (number-at c.args.unknown c.self.inside.unknowns.items c.in-Some.place place) in
    let few = c.self.invariant.few in
    omega arith

pub returns-in-Some-clause-place : goal.returns-in-Some-clause-place
returns-in-Some-clause-place c =
    let place : number_of c.self.inside.unknowns.items c.args.unknown ≡ Some c.in-Some.place =
    ap (λ (xs : List Unknown). number_of xs c.args.unknown) (sym c.as_slice.ensures.value) ∙ sym c.place_in.ensures ∙ c.in-Some.is in
    rw (← c.self.view_is) (sym place)

pub returns-in-None-clause-place : goal.returns-in-None-clause-place
returns-in-None-clause-place c =
    let place : number_of c.self.inside.unknowns.items c.args.unknown ≡ None =
    ap (λ (xs : List Unknown). number_of xs c.args.unknown) (sym c.as_slice.ensures.value) ∙ sym c.place_in.ensures ∙ c.in-None.is in
    rw (← c.self.view_is) (sym place)

pub returns-in-Some-clause-found : goal.returns-in-Some-clause-found
returns-in-Some-clause-found c =
    let place : number_of c.self.inside.unknowns.items c.args.unknown ≡ Some c.in-Some.place =
    ap (λ (xs : List Unknown). number_of xs c.args.unknown) (sym c.as_slice.ensures.value) ∙ sym c.place_in.ensures ∙ c.in-Some.is in
    rw (← c.self.view_is) (λ k. (
      λ e. number-at c.args.unknown c.self.inside.unknowns.items k (place ∙ e),
      λ at. sym place ∙ number-of-at c.self.inside.unknowns.items c.self.invariant.apart k c.args.unknown at,
    ))

pub returns-in-Some-clause-none : goal.returns-in-Some-clause-none
returns-in-Some-clause-none c =
    let place : number_of c.self.inside.unknowns.items c.args.unknown ≡ Some c.in-Some.place =
    ap (λ (xs : List Unknown). number_of xs c.args.unknown) (sym c.as_slice.ensures.value) ∙ sym c.place_in.ensures ∙ c.in-Some.is in
    rw (← c.self.view_is) (λ e. cc e, λ none. absurd (none c.in-Some.place (number-at c.args.unknown c.self.inside.unknowns.items c.in-Some.place place)))

pub returns-in-None-clause-found : goal.returns-in-None-clause-found
returns-in-None-clause-found c =
    let place : number_of c.self.inside.unknowns.items c.args.unknown ≡ None =
    ap (λ (xs : List Unknown). number_of xs c.args.unknown) (sym c.as_slice.ensures.value) ∙ sym c.place_in.ensures ∙ c.in-None.is in
    rw (← c.self.view_is) (λ k. (λ e. cc e, λ at. absurd (number-none c.args.unknown c.self.inside.unknowns.items place k at)))

pub returns-in-None-clause-none : goal.returns-in-None-clause-none
returns-in-None-clause-none c =
    let place : number_of c.self.inside.unknowns.items c.args.unknown ≡ None =
    ap (λ (xs : List Unknown). number_of xs c.args.unknown) (sym c.as_slice.ensures.value) ∙ sym c.place_in.ensures ∙ c.in-None.is in
    rw (← c.self.view_is) (λ e. number-none c.args.unknown c.self.inside.unknowns.items place, λ none. refl)
