-- Nodes have numbers below 8.
use Rattle.std.{proofs.Common.{ℕ, ◌<◌, refl, arith}, specs.Prelude.{IsFalse, IsTrue}}
use Rattle.tp_base.specs.{History.NamesSmall, declared.step.Step.{Step, TheVariants.{Insert, ActionOpen, ActionClose, Ready, Send, Recv}}}
use Rattle.tp_base.specs.declared.step.Step.TheVariants.{MessageEnd, Down, Give, Up, Reopen}
use Rattle.tp_board.specs.{EventLogs.HasFew, Numbers.{is_plain, is_send}}
use Rattle.tp_wave.specs.{Machine.IsOf, Steps.is_reopen}

-- The numbers that a step of a node names are small, if it sends nothing.
pub names_small : (i : ℕ) (s : Step) → i < 8 → IsOf i s → HasFew s → IsFalse (is_send s) → NamesSmall s
names_small i (Insert j t k) low of few other = omega (arith, of)
names_small i (ActionOpen j a) low of few other = omega (arith, of)
names_small i (ActionClose j a) low of few other = omega (arith, of)
names_small i (Ready j) low of few other = omega (arith, of)
names_small i (Send j k m g) low of few other = cc
names_small i (Recv j m g) low of few other = (omega (arith, of), few.0, few.1)
names_small i (MessageEnd j m g) low of few other = (omega (arith, of), few.0, few.1)
names_small i (Down j) low of few other = omega (arith, of)
names_small i (Give j) low of few other = omega (arith, of)
names_small i (Up j) low of few other = omega (arith, of)
names_small i _ low of few other = tt

-- A step that names no message has no number that has to be small.
pub plain_few : (s : Step) → IsTrue (is_plain s) → HasFew s
plain_few (Recv j m g) plain = absurd cc
plain_few (MessageEnd j m g) plain = absurd cc
plain_few _ plain = tt

-- It sends nothing and reopens nothing.
pub plain_kind : (s : Step) → IsTrue (is_plain s) → IsFalse (is_send s) × IsFalse (is_reopen s)
plain_kind (Send i j m g) plain = absurd cc
plain_kind Reopen plain = absurd cc
plain_kind _ plain = (refl, refl)
