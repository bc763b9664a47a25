use Rattle.std.proofs.Common.{refl}
use Rattle.exec_worked.proofs.OnLiterals.{transcript_on_literals}
use Rattle.exec_worked.proofs.json.json_cases.Goals as goal

pub returns-clause-json_127_levels : goal.returns-clause-json_127_levels
unfolding transcript_on_literals
returns-clause-json_127_levels c = refl

pub returns-clause-json_128_levels : goal.returns-clause-json_128_levels
unfolding transcript_on_literals
returns-clause-json_128_levels c = refl

pub returns-clause-a_brace_too_many : goal.returns-clause-a_brace_too_many
unfolding transcript_on_literals
returns-clause-a_brace_too_many c = refl

pub returns-clause-a_byte_255_in_a_name : goal.returns-clause-a_byte_255_in_a_name
unfolding transcript_on_literals
returns-clause-a_byte_255_in_a_name c = refl

pub returns-clause-a_byte_order_mark : goal.returns-clause-a_byte_order_mark
unfolding transcript_on_literals
returns-clause-a_byte_order_mark c = refl

pub returns-clause-a_comma_at_the_end : goal.returns-clause-a_comma_at_the_end
unfolding transcript_on_literals
returns-clause-a_comma_at_the_end c = refl

pub returns-clause-a_comment : goal.returns-clause-a_comment
unfolding transcript_on_literals
returns-clause-a_comment c = refl

pub returns-clause-a_line_feed_in_a_text : goal.returns-clause-a_line_feed_in_a_text
unfolding transcript_on_literals
returns-clause-a_line_feed_in_a_text c = refl

pub returns-clause-a_number_beyond_floats : goal.returns-clause-a_number_beyond_floats
unfolding transcript_on_literals
returns-clause-a_number_beyond_floats c = refl

pub returns-clause-a_number_that_begins_with_0 : goal.returns-clause-a_number_that_begins_with_0
unfolding transcript_on_literals
returns-clause-a_number_that_begins_with_0 c = refl

pub returns-clause-bytes_that_are_no_text : goal.returns-clause-bytes_that_are_no_text
unfolding transcript_on_literals
returns-clause-bytes_that_are_no_text c = refl

pub returns-clause-cut_off : goal.returns-clause-cut_off
unfolding transcript_on_literals
returns-clause-cut_off c = refl

pub returns-clause-deep_lists_in_an_unknown_field : goal.returns-clause-deep_lists_in_an_unknown_field
unfolding transcript_on_literals
returns-clause-deep_lists_in_an_unknown_field c = refl

pub returns-clause-half_of_a_surrogate_pair : goal.returns-clause-half_of_a_surrogate_pair
unfolding transcript_on_literals
returns-clause-half_of_a_surrogate_pair c = refl

pub returns-clause-nothing : goal.returns-clause-nothing
unfolding transcript_on_literals
returns-clause-nothing c = refl

pub returns-clause-single_quotes : goal.returns-clause-single_quotes
unfolding transcript_on_literals
returns-clause-single_quotes c = refl

pub returns-clause-spaces_round_it : goal.returns-clause-spaces_round_it
unfolding transcript_on_literals
returns-clause-spaces_round_it c = refl

pub returns-clause-the_last_of_two_versions : goal.returns-clause-the_last_of_two_versions
unfolding transcript_on_literals
returns-clause-the_last_of_two_versions c = refl

pub returns-clause-two_documents : goal.returns-clause-two_documents
unfolding transcript_on_literals
returns-clause-two_documents c = refl

pub returns-clause-with_text_behind_it : goal.returns-clause-with_text_behind_it
unfolding transcript_on_literals
returns-clause-with_text_behind_it c = refl
