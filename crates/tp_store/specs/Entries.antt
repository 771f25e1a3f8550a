-- The entries of a store by task number.
use Rattle.std.specs.Prelude.{◌^◌, ℕ, nat_lt, Option, None, unwrap_or, if◌then◌else◌}
use Rattle.tp_base.specs.{Table.lookup, declared.table.Table.Table}
use Rattle.tp_store.specs.declared.index.Entry.{Entry}

-- for each number an entry, or only room for one
abbrev pub Entries : Type 0
Entries = Table (Option Entry)

-- the entry of a number, which has 32 bits
abbrev pub entry_at : Entries → ℕ → Option Entry
entry_at index t = if nat_lt t (2 ^ 32) then unwrap_or (lookup index t) None else None
