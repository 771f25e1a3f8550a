-- How an event is packed into bytes: the event of each packed form.
use Rattle.std.specs.Prelude.{ℕ, ◌+◌, ◌*◌, ◌/◌, ◌%◌}
use Rattle.tp_base.specs.{History.Event, declared.{packed.{Kind.Kind, Packed.TheInside.Inside}, step.Step.{Step, TheVariants.Insert}}}
use Rattle.tp_base.specs.declared.step.Step.TheVariants.{Supply, Begin, Done, ActionOpen, ActionClose, Ready, Send, Recv, MessageEnd, Start}
use Rattle.tp_base.specs.declared.step.Step.TheVariants.{Down, Give, Up, Judge, Reopen}
use Rattle.tp_base.specs.declared.packed.Kind.TheVariants as kind

-- the message whose number is in the low 20 bits of n
abbrev pub message_in : ℕ → ℕ
message_in n = n % 1048576

-- the generation with the high bits k, and with low bits above the low 20 bits of n
abbrev pub generation_in : ℕ → ℕ → ℕ
generation_in k n = k * 4096 + n / 1048576

-- the step of a kind from its parts: a node or two, then the inputs or a generation's high bits, then the number of a
-- task, an action or a message
abbrev pub step_of : Kind → ℕ → ℕ → ℕ → Step
step_of kind.Insert i k n = Insert (record { 0 = i }) (record { 0 = n }) (record { count = k })
step_of kind.Supply i k n = Supply (record { 0 = n })
step_of kind.Begin i k n = Begin (record { 0 = n })
step_of kind.Done i k n = Done (record { 0 = n })
step_of kind.ActionOpen i k n = ActionOpen (record { 0 = i }) (record { 0 = n })
step_of kind.ActionClose i k n = ActionClose (record { 0 = i }) (record { 0 = n })
step_of kind.Ready i k n = Ready (record { 0 = i })
step_of kind.Send i k n =
    Send (record { 0 = i / 16 }) (record { 0 = i % 16 }) (record { 0 = message_in n }) (record { 0 = generation_in k n })
step_of kind.Recv i k n = Recv (record { 0 = i }) (record { 0 = message_in n }) (record { 0 = generation_in k n })
step_of kind.MessageEnd i k n = MessageEnd (record { 0 = i }) (record { 0 = message_in n }) (record { 0 = generation_in k n })
step_of kind.Start i k n = Start
step_of kind.Down i k n = Down (record { 0 = i })
step_of kind.Give i k n = Give (record { 0 = i })
step_of kind.Up i k n = Up (record { 0 = i })
step_of kind.Judge i k n = Judge
step_of kind.Reopen i k n = Reopen

abbrev pub unpacked : Inside → Event
unpacked p = (record { 0 = p.node }, step_of p.kind p.first p.second p.number)
