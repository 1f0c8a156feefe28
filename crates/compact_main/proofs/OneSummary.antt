-- The numbers of a drawing: there is one for each.
use Rattle.std.proofs.Common.{◌≡◌, refl, sym, ◌∙◌}
use Rattle.compact_types.specs.declared.places.Axis.TheVariants.{X, Y}
use Rattle.compact_types.specs.Lengths.{plain_length_of}
use Rattle.bars.specs.Lines.{line_count}
use Rattle.bars.specs.Segments.{segment_count, IsPair}
use Rattle.compact_main.specs.declared.drawing.Drawing.{Drawing}
use Rattle.compact_main.specs.declared.summary.Summary.{Summary}
use Rattle.compact_main.specs.Drawings.{shape_of, vertex_count, piece_count, IsSummary}
use Rattle.compact_main.specs.Summaries.{IsSeparatedPair}
use Rattle.compact_main.proofs.CountsBelow.{one_pair_count, some_pair_count}
use Rattle.compact_main.proofs.PairChoice.{pair_or_not, separated_pair_or_not}

pub one_summary : (drawing : Drawing) (a b : Summary) → IsSummary drawing a → IsSummary drawing b → a ≡ b
one_summary drawing a b first second =
    let pairs = one_pair_count (IsPair (shape_of drawing)) (segment_count (shape_of drawing)) a.pairs b.pairs first.pairs second.pairs in
    let separated = one_pair_count (IsSeparatedPair (shape_of drawing)) (segment_count (shape_of drawing)) a.separated b.separated first.separated second.separated in
    λ i. record {
      vertices = (first.vertices ∙ sym second.vertices) i;
      pieces = (first.pieces ∙ sym second.pieces) i;
      rows = (first.rows ∙ sym second.rows) i;
      columns = (first.columns ∙ sym second.columns) i;
      bars = (first.bars ∙ sym second.bars) i;
      pairs = pairs i;
      separated = separated i;
      length = (first.thousandths ∙ sym second.thousandths) i;
    }

pub some_summary : (drawing : Drawing) → (summary : Summary) × IsSummary drawing summary
some_summary drawing =
    let (pairs, counted) = some_pair_count (IsPair (shape_of drawing)) (pair_or_not (shape_of drawing)) (segment_count (shape_of drawing)) in
    let (separated, counted_too) = some_pair_count (IsSeparatedPair (shape_of drawing)) (separated_pair_or_not (shape_of drawing)) (segment_count (shape_of drawing)) in (
      record {
        vertices = vertex_count drawing;
        pieces = piece_count drawing;
        rows = line_count X (shape_of drawing);
        columns = line_count Y (shape_of drawing);
        bars = segment_count (shape_of drawing);
        pairs = pairs;
        separated = separated;
        length = plain_length_of drawing.reading.plan drawing.reading.places;
      },
      record {
        vertices = refl;
        pieces = refl;
        rows = refl;
        columns = refl;
        bars = refl;
        pairs = counted;
        separated = counted_too;
        thousandths = refl;
      },
    )
