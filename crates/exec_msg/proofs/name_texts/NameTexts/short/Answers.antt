use Rattle.std.specs.Option.{option_copied}
use Rattle.exec_msg.proofs.NameFields.{field_within}
use Rattle.exec_msg.proofs.name_texts.NameTexts.short.Goals as goal

pub returns-clause-bound : goal.returns-clause-bound
returns-clause-bound c = field_within c.args.self.now c.args.no (option_copied c.field.result) c.field.ensures
