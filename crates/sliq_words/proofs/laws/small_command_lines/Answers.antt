use Rattle.std.proofs.Common.{refl}
use Rattle.clap.proofs.OnLiterals.{clap_on_literals}
use Rattle.sliq_words.specs.Values.{number_in, bits_of}
use Rattle.sliq_words.specs.Forms.{form_of, app_for, faults, rows_for}
use Rattle.sliq_words.specs.Asked.{setting_of, rules_in, input_in, task_in, files_in, request_in, asked_after}
use Rattle.sliq_words.proofs.laws.small_command_lines.Goals as goal

pub returns-clause-in_order : goal.returns-clause-in_order
unfolding clap_on_literals form_of app_for faults rows_for number_in bits_of setting_of rules_in input_in task_in files_in request_in asked_after
returns-clause-in_order c = refl

pub returns-clause-in_another : goal.returns-clause-in_another
unfolding clap_on_literals form_of app_for faults rows_for number_in bits_of setting_of rules_in input_in task_in files_in request_in asked_after
returns-clause-in_another c = refl

pub returns-clause-bits : goal.returns-clause-bits
unfolding clap_on_literals form_of app_for faults rows_for number_in bits_of setting_of rules_in input_in task_in files_in request_in asked_after
returns-clause-bits c = refl

pub returns-clause-behind_dashes : goal.returns-clause-behind_dashes
unfolding clap_on_literals form_of app_for faults rows_for number_in bits_of setting_of rules_in input_in task_in files_in request_in asked_after
returns-clause-behind_dashes c = refl

pub returns-clause-two_files : goal.returns-clause-two_files
unfolding clap_on_literals form_of app_for faults rows_for number_in bits_of setting_of rules_in input_in task_in files_in request_in asked_after
returns-clause-two_files c = refl

pub returns-clause-standard_input : goal.returns-clause-standard_input
unfolding clap_on_literals form_of app_for faults rows_for number_in bits_of setting_of rules_in input_in task_in files_in request_in asked_after
returns-clause-standard_input c = refl

pub returns-clause-three_numbers : goal.returns-clause-three_numbers
unfolding clap_on_literals form_of app_for faults rows_for number_in bits_of setting_of rules_in input_in task_in files_in request_in asked_after
returns-clause-three_numbers c = refl

pub returns-clause-file_and_numbers : goal.returns-clause-file_and_numbers
unfolding clap_on_literals form_of app_for faults rows_for number_in bits_of setting_of rules_in input_in task_in files_in request_in asked_after
returns-clause-file_and_numbers c = refl

pub returns-clause-twice : goal.returns-clause-twice
unfolding clap_on_literals form_of app_for faults rows_for number_in bits_of setting_of rules_in input_in task_in files_in request_in asked_after
returns-clause-twice c = refl

pub returns-clause-cut_short : goal.returns-clause-cut_short
unfolding clap_on_literals form_of app_for faults rows_for number_in bits_of setting_of rules_in input_in task_in files_in request_in asked_after
returns-clause-cut_short c = refl

pub returns-clause-no_value : goal.returns-clause-no_value
unfolding clap_on_literals form_of app_for faults rows_for number_in bits_of setting_of rules_in input_in task_in files_in request_in asked_after
returns-clause-no_value c = refl
