-- The state of a process, and how it is stored: a C program can write any bytes, so a flag is a byte that is set if it
-- is not 0.
use Rattle.std.specs.Prelude.{ℕ, ◌==◌, Bool, not}
use Rattle.tp_process.specs.declared.{epoch_state.StoredState.StoredState, process.Process.Process}

-- what one process knows in one epoch; the fields are explained in src/epoch_state.rt
pub record EpochState : Type 0 where
  pub number : ℕ
  pub processes : ℕ
  pub pending : ℕ
  pub sent : ℕ
  pub received : ℕ
  pub wave : ℕ
  pub taken_sent : ℕ
  pub taken_received : ℕ
  pub last_received : ℕ
  pub known : Bool
  pub here : Bool
  pub down_left : Bool
  pub down_right : Bool
  pub up_left : Bool
  pub up_right : Bool
  pub over : Bool
  pub over_left : Bool
  pub over_right : Bool

pub record ProcessState : Type 0 where
  pub mark : ℕ
  pub epoch : ℕ
  pub state : EpochState

abbrev pub is_set : ℕ → Bool
is_set flag = not (flag == 0)

-- what the stored numbers and bytes mean
abbrev pub read_state : StoredState → EpochState
read_state p =
    record {
      number = p.number;
      processes = p.processes;
      pending = p.pending;
      sent = p.sent;
      received = p.received;
      wave = p.wave;
      taken_sent = p.taken_sent;
      taken_received = p.taken_received;
      last_received = p.last_received;
      known = is_set p.known;
      here = is_set p.here;
      down_left = is_set p.down_left;
      down_right = is_set p.down_right;
      up_left = is_set p.up_left;
      up_right = is_set p.up_right;
      over = is_set p.over;
      over_left = is_set p.over_left;
      over_right = is_set p.over_right;
    }

abbrev pub read : Process → ProcessState
read r = record { mark = r.mark; epoch = r.epoch; state = read_state r.state }

-- how a state is stored at the beginning of an epoch: one piece of work is open
abbrev pub new_state : ℕ → ℕ → StoredState
new_state number processes =
    record {
      number = number;
      processes = processes;
      pending = 1;
      sent = 0;
      received = 0;
      wave = 0;
      taken_sent = 0;
      taken_received = 0;
      last_received = 0;
      known = 0;
      here = 0;
      down_left = 0;
      down_right = 0;
      up_left = 0;
      up_right = 0;
      over = 0;
      over_left = 0;
      over_right = 0;
    }
