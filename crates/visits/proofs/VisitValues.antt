-- Values of the visit that a block dates from: what the definitions compute is what the table says, group by group and as a whole, and not what wrong values would say.
use mathlib.Core.Path.{◌≡◌, refl}
use mathlib.Core.List.{map}
use native.Mathlib.Omega.{arith}
use Rattle.claims.specs.Bench.{Result, expected, computed, showing, block_of}
use Rattle.claims.proofs.Bench.{apart, first_letter_in}
use Rattle.claims.proofs.Running.{running}
use Rattle.samples.proofs.FastCheck.{running_once}
use Rattle.samples.proofs.AsSaid.{AsSaid, ◌and◌, quickly}
use Rattle.visits.specs.VisitValues.{region_values, refused_visits, reverted_visits, tabled_visits, visit_values, WrongVisits}

region_values_lem : AsSaid region_values
unfolding running_once region_values
region_values_lem = quickly _ refl

refused_visits_lem : AsSaid refused_visits
unfolding running_once refused_visits
refused_visits_lem = quickly _ refl

reverted_visits_lem : AsSaid reverted_visits
unfolding running_once reverted_visits
reverted_visits_lem = quickly _ refl

tabled_visits_lem : AsSaid tabled_visits
unfolding running_once tabled_visits
tabled_visits_lem = quickly _ refl

whole : AsSaid visit_values
unfolding visit_values
whole =
    region_values_lem
    and refused_visits_lem
    and reverted_visits_lem
    and tabled_visits_lem

pub visit_values_lem : map computed visit_values ≡ map expected visit_values
visit_values_lem = whole.as_said

pub wrong_visits : WrongVisits
unfolding running WrongVisits expected computed showing block_of first_letter_in
wrong_visits = (
  apart (λ (r : Result). first_letter_in r.shown) 109 102 (λ e. omega arith) _ _ refl refl,
  apart (λ (r : Result). first_letter_in r.shown) 102 109 (λ e. omega arith) _ _ refl refl,
  apart (λ (r : Result). first_letter_in r.shown) 109 0 (λ e. omega arith) _ _ refl refl,
  apart (λ (r : Result). first_letter_in r.shown) 0 109 (λ e. omega arith) _ _ refl refl,
  apart (λ (r : Result). first_letter_in r.shown) 102 109 (λ e. omega arith) _ _ refl refl,
)
