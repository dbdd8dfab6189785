-- Every definition of this crate, for whoever computes with them: `unfolding passes` opens all of them.
use Rattle.pass_rules.specs.Texts
use Rattle.pass_rules.specs.Give

unfoldable pub texts : Unit {0}
unfolding Texts.person_lines Texts.staff_text Texts.is_ascending Texts.is_staff_list Texts.pass_text Texts.register_text Texts.within Texts.zero_or Texts.value_in Texts.line_in Texts.after Texts.above Texts.joined Texts.people_in Texts.staff_of Texts.staff_in Texts.register_in
texts = tt

unfoldable pub gives : Unit {0}
unfolding Give.next Give.read_by Give.listed Give.list_from Give.counted Give.count_from Give.shut Give.is_on Give.two_of Give.not_full Give.staff_look Give.register_look Give.give_look Give.ends Give.noting Give.parts Give.midway Give.broken Give.goes_on Give.starts Give.gives_at Give.give Give.pass_at Give.pass_report Give.staff_report Give.register_report
gives = tt

unfoldable pub passes : Unit {0}
unfolding texts gives
passes = tt
