-- The kinds of texts that commands read.
use Rattle.std.specs.Prelude.{ℕ, List}

-- What a text is to be: what a text of this kind says, when the bytes are the text of this, what is wrong with a text that says nothing,
-- when this is the first fault of a text within the limit, and the code of a fault. A kind whose reader depends on the network that a text
-- before it says holds that network.
pub record Kind : Type 1 where
  pub Said : Type 0
  pub Fault : Type 0
  pub is_text : List ℕ → Said → Type 0
  pub is_fault : List ℕ → Fault → Type 0
  pub code : Fault → List ℕ
