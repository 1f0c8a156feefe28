use Rattle.std.proofs.Common.{◌<◌, subst, sym}
use Rattle.separation.specs.declared.candidates.Candidate.{Candidate}
use Rattle.separation.specs.declared.sweep.Position.{Position}
use Rattle.separation.specs.inner.Candidates.{IsBestOf}
use Rattle.separation.specs.inner.Sweeps.{IsSwept, left_from, past}
use Rattle.separation.proofs.FewestLemmas.{best_end, best_first, best_next}
use Rattle.separation.proofs.SweepLemmas.{fewer_left}
use Rattle.separation.proofs.candidates.fewest_open.Goals as goal

pub loop-found-init : goal.loop-found-init
loop-found-init c = λ axis choices places setting are in_order first.
    subst (λ (at : Position). IsBestOf c.args.bars.now choices places (IsSwept c.args.extents.now at) c.candidate_of-best.result) (sym c.past-at.ensures)
    (best_first c.args.bars.now choices places c.args.extents.now c.args.first c.candidate_of-best.result
    (record { s = c.candidate_of-best.ensures.s; t = c.candidate_of-best.ensures.t; open_sides = c.candidate_of-best.ensures.«open» choices setting.reach_of })
    c.requires.first first)

pub loop-found-preserved : goal.loop-found-preserved
loop-found-preserved c = λ axis choices places setting are in_order first.
    subst (λ (at : Position). IsBestOf c.args.bars.now choices places (IsSwept c.args.extents.now at) c.first_candidate-best.result) (sym c.past-at-in-Some.ensures)
    (subst (λ (best : Candidate). IsBestOf c.args.bars.now choices places (IsSwept c.args.extents.now (past c.in-Some.found)) best) (sym c.first_candidate-best.ensures)
    (best_next c.args.bars.now choices places c.args.extents.now c.loop-found.at c.in-Some.found c.loop-found.best c.candidate_of.result
    (c.loop-found.invariant axis choices places setting are in_order first)
    (record { s = c.candidate_of.ensures.s; t = c.candidate_of.ensures.t; open_sides = c.candidate_of.ensures.«open» choices setting.reach_of })
    c.in-Some.ensures.meeting (c.in-Some.ensures.next axis places setting.drawing setting.ways are in_order)))

pub loop-found-smaller : goal.loop-found-smaller
loop-found-smaller c =
    subst (λ (at : Position). left_from c.args.extents.now at < left_from c.args.extents.now c.loop-found.at) (sym c.past-at-in-Some.ensures)
    (fewer_left c.args.extents.now c.loop-found.at c.in-Some.found c.in-Some.ensures.meeting.later c.in-Some.ensures.meeting.first_inside
    c.in-Some.ensures.meeting.second_inside)

pub returns : goal.returns
returns c = λ axis choices places setting are in_order first.
    best_end c.args.bars.now choices places c.args.extents.now c.loop-found.at c.loop-found.best
    (c.loop-found.invariant axis choices places setting are in_order first)
    (c.in_default.ensures.next axis places setting.drawing setting.ways are in_order)
