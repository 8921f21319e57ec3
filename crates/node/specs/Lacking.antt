-- A letter for which memory ran out before it became a message.
use Rattle.std.specs.Prelude.{◌≡◌, ◌≢◌, ℕ, List, length, true, Result, IfOk, IfErr, IsTrue}
use Rattle.ids.specs.declared.refusal.Refusal.{Refusal}
use Rattle.ids.specs.declared.refusal.Refusal.TheVariants.{Memory}
use Rattle.msg.specs.declared.body.Body.TheVariants as body
use Rattle.msg.specs.declared.frame.Data.{Data}
use Rattle.model.specs.declared.event.Answer.{Answer}
use Rattle.model.specs.declared.event.Answer.TheVariants as answer
use Rattle.model.specs.declared.event.Event.TheVariants as event
use Rattle.model.specs.Steps.{is_memory_free}
use Rattle.model.specs.View.{NodeView, Performed, view_act}
use Rattle.node.specs.declared.node_core.lacking.LetterRef.{LetterRef}

-- the message that the letter would have become
pub record IsOfLetter (l : LetterRef) (d : Data) : Type 0 where
  pub from : d.from ≡ l.from
  pub to : d.to ≡ l.to
  pub number : d.number ≡ l.number
  pub stamp : d.stamp ≡ l.stamp
  pub label : ℕ
  pub bytes : List ℕ
  pub body : d.body ≡ body.Post label l.references.now bytes
  pub size : length bytes ≡ l.bytes

-- The answer to a message of this node, which stays as it is: the message is refused, perhaps for
-- lack of memory, or it is a repeat.
pub record Lacks (n : NodeView) (d : Data) (result : Result Answer Refusal) : Type 0 where
  pub performed : Performed true result n n (view_act n (event.Data d))
  pub memory_free : IsTrue (is_memory_free n.local (event.Data d)) → IfErr result (λ e. e ≢ Memory)
  pub repeats : IfOk result (λ a. a ≡ answer.Repeat)
