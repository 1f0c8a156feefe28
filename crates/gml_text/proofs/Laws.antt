-- The laws of this crate: the one module of its proofs that other crates import.

-- every text has one tree or one first fault
pub use Rattle.gml_text.proofs.OneAnswer.{one_answer}
-- the tree of a text is within the grammar, and readable where the text is not too long
pub use Rattle.gml_text.proofs.ReadTreeLimits.{spelled_within, spelled_readable}
-- words, depth and pairs of a tree, a level at a time
pub use Rattle.gml_text.proofs.TreeLevels.{list_all-map, tree_words, rolled_words, pair_words, has_right_word, value_words}
pub use Rattle.gml_text.proofs.TreeLevels.{tree_depth, rolled_depth, pair_depth, depth_with_list, value_depth}
pub use Rattle.gml_text.proofs.TreeLevels.{tree_count, rolled_count, pair_with_value, count_in_list, value_count}
-- what holds of each value because it holds of the values in its list
pub use Rattle.gml_text.proofs.ValueInduction.{EachValue, each_in}
-- alike trees, a level at a time
pub use Rattle.gml_text.proofs.AlikeTrees.{bare_value, bare_pair, without_offsets-pairs, IsAlike-pairs, pairs-IsAlike}
-- alike trees are within the grammar together
pub use Rattle.gml_text.proofs.AlikeTrees.{within_alike, readable_alike}
-- numerals, their kinds and their parts
pub use Rattle.gml_text.proofs.ReadTreeLimits.{is_numeral-whole, is_numeral-real}
pub use Rattle.gml_text.proofs.NumeralLaws.{kind_of-whole, kind_of-real, real-kind_of, numeral_has_parts}
pub use Rattle.gml_text.proofs.NumeralParts.{all-are_digits, parts_of-is}
-- the ends of texts
pub use Rattle.gml_text.proofs.ByteFacts.{is_space-no_word}
pub use Rattle.gml_text.proofs.KeysAreWords.{ends_in_word-append}
