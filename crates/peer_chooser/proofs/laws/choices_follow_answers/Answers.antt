use Rattle.peer_chooser.proofs.Choices.{each_choice_follows, none_waits_in_the_end}
use Rattle.peer_chooser.proofs.laws.choices_follow_answers.Goals as goal

pub returns-clause-follows : goal.returns-clause-follows
returns-clause-follows c = each_choice_follows

pub returns-clause-ends : goal.returns-clause-ends
returns-clause-ends c = none_waits_in_the_end
