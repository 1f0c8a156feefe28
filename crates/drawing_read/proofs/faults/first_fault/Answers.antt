use Rattle.std.proofs.Common.{◌≡◌, ℤ, ℕ, List, [], ◌∷◌, Option, None, Some, drop, refl, ap, ◌∙◌}
use Rattle.std.specs.List.{position}
use Rattle.std.specs.Option.{option_map, option_or}
use Rattle.compact_types.specs.declared.limits.TheConstants.{MOST_VERTICES}
use Rattle.drawing_read.specs.declared.fault.DrawFault.{DrawFault}
use Rattle.drawing_read.specs.declared.fault.DrawFault.TheVariants as kinds
use Rattle.drawing_read.specs.declared.limits.TheConstants.{MOST_PIECES_READ}
use Rattle.drawing_read.specs.Faults.{is_absent, is_unfit, empty_fault, faults_in, has_unknown_end, bad_point_from, too_many, first_that_is}
use Rattle.drawing_read.proofs.faults.first_fault.Goals as goal

one_more : {a b : Option DrawFault} {xs ys : List (Option DrawFault)} → a ≡ b → xs ≡ ys → a ∷ xs ≡ b ∷ ys
one_more first rest = cc

-- of two faults in one place the first comes first
one_by_one : (before first second : Option DrawFault) (faults : List (Option DrawFault)) →
    first_that_is (before ∷ option_or first second ∷ faults) ≡ first_that_is (before ∷ first ∷ second ∷ faults)
one_by_one before None second faults = refl
one_by_one before (Some fault) second faults = refl

pub returns : goal.returns
returns c =
    let graph = c.args.graph.now in
    let missing = option_map (λ n. kinds.NoId n) (position (λ node. is_absent node.id) graph.nodes) in
    let bad = option_map (λ n. kinds.BadId n) (position (λ node. is_unfit node.id) graph.nodes) in
    let unknown = c.unknown_end.ensures
    ∙ ap (λ (look : ℤ → Option ℕ). option_map (λ e. kinds.UnknownEnd e) (position (has_unknown_end look) graph.edges)) c.requires.first in
    let repeated = c.repeated_id.ensures ∙ ap (option_map (λ n. kinds.RepeatedId n)) c.requires.repeated in
    let points = c.bad_point.ensures ∙ ap (bad_point_from 0) c.as_slice.ensures in
    let vertices = c.too_many_vertices.ensures ∙ ap (λ n. option_map (λ c. kinds.TooManyVertices c) (too_many MOST_VERTICES n)) c.requires.vertices in
    let pieces = c.too_many_pieces.ensures ∙ ap (λ n. option_map (λ c. kinds.TooManyPieces c) (too_many MOST_PIECES_READ n)) c.requires.pieces in
    c.first_that_is.ensures
    ∙ ap first_that_is
    (one_more c.no_node.ensures (one_more c.missing_or_bad_id.ensures (one_more repeated (one_more c.no_place.ensures
    (one_more c.bad_number.ensures (one_more c.no_end.ensures (one_more unknown (one_more points (one_more vertices (one_more {xs = []} pieces refl))))))))))
    ∙ one_by_one (empty_fault graph.nodes) missing bad (drop 3 (faults_in graph))
