use Rattle.std.proofs.Common.{not, refl}
use Rattle.std.proofs.lemmas.List.Sorted.{IsPermutation-filter_both}
use Rattle.exec_goal.specs.Table.{is_expired}
use Rattle.exec_goal.proofs.Filtering.{filter-sublist}
use Rattle.exec_goal.proofs.laws.expiry_parts_the_table.Goals as goal

pub returns : goal.returns
returns c = record {
  together = λ moment timeout goals. IsPermutation-filter_both (is_expired moment timeout) (λ goal. not (is_expired moment timeout goal)) (λ goal. refl) goals;
  forgotten = λ moment timeout goals. filter-sublist (is_expired moment timeout) goals;
  kept = λ moment timeout goals. filter-sublist (λ goal. not (is_expired moment timeout goal)) goals;
}
