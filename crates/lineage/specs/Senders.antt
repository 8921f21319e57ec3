-- Which process of another node a node takes for the latest one, packet by packet.
use Rattle.std.specs.Prelude.{bit_xor, ◌≡◌, ℕ, ◌==◌, ◌≤◌, ◌||◌, Bool, cond, nat_le, nat_lt, List, [], ◌∷◌, ⊤}
use Rattle.lineage.specs.declared.senders.Process.{Process}
use Rattle.lineage.specs.declared.senders.Sender.{Sender}
use Rattle.lineage.specs.declared.senders.Sender.TheVariants.{Behind, Later, Latest, Outdated}

abbrev pub word : Process → ℕ
word p = bit_xor p.nonce p.saves

-- The sender may be a later process than the one that is known: it has heard of that one, or none
-- is known, or it doesn't say what it has heard.
abbrev pub goes_on : Process → ℕ → Bool
goes_on known heard = (known.nonce == 0) || ((heard == 0) || (heard == word known))

abbrev pub sender_of : Process → Process → ℕ → Sender
sender_of known sender heard =
    cond (sender.nonce == known.nonce) (cond (nat_lt sender.saves known.saves) Behind Latest)
    (cond (goes_on known heard) (cond (nat_le sender.run known.saves) Outdated Later) Outdated)

-- what is known then
abbrev pub known_after : Process → Process → Sender → Process
known_after known sender Latest = record known { saves = sender.saves }
known_after known sender Later = sender
known_after known sender s = known

-- a packet: its sender, and what that one has heard
pub record Packet : Type 0 where
  pub sender : Process
  pub heard : ℕ

-- what is known after packets
abbrev pub known_by : Process → List Packet → Process
known_by known [] = known
known_by known (p ∷ ps) =
    known_by (known_after known p.sender (sender_of known p.sender p.heard)) ps

-- a process makes its first save before its last one
abbrev pub AreInOrder : List Packet → Type 0
AreInOrder [] = ⊤
AreInOrder (p ∷ ps) = (p.sender.run ≤ p.sender.saves) × AreInOrder ps

-- the same process, with as many saves or more
pub record IsSame (p q : Process) : Type 0 where
  pub nonce : q.nonce ≡ p.nonce
  pub run : q.run ≡ p.run
  pub saves : p.saves ≤ q.saves
