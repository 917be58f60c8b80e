-- The worked models, computed.
use Rattle.std.proofs.Common.{refl}
use Rattle.meaning.specs.Model.{in_whole, value, next_seed, drawn, with_var, with_seed, with_line, with_sent, iterate, draws, sending, exec, body_of, handle, before, insert, insert_all, nobody, handle_in, handled_in, handling, step_with, step, steps, initial, start}
use Rattle.meaning.specs.Worked.{WorkedModels}

pub worked : WorkedModels
unfolding in_whole value next_seed drawn with_var with_seed with_line with_sent iterate draws sending exec body_of handle before insert insert_all nobody handle_in handled_in handling step_with step steps initial start
worked = ((refl, refl), ((refl, refl), ((refl, refl), ((refl, refl), ((refl, refl), tt)))))
