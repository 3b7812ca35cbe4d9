-- What `describe` answers to its request and its bytes.
use Rattle.std.specs.Prelude.{◌≡◌, ℕ, List, Some, None, Option}
use Rattle.graph.specs.Graph.{Graph}
use Rattle.meanings.specs.declared.Columns.{Columns}
use Rattle.meanings.specs.Reading.{reading}
use Rattle.meanings.specs.RuleList.{rule_list}
use Rattle.meanings.specs.Table.{table, columns}
use Rattle.text.specs.GraphText.{graph_text}
use Rattle.describe.specs.declared.Failure.{Failure}
use Rattle.describe.specs.declared.Failure.TheVariants.{Usage, Stream, Memory, Faulty}
use Rattle.describe.specs.declared.Form.{Form}
use Rattle.describe.specs.declared.Form.TheVariants.{Table, Rules}
use Rattle.describe.specs.declared.Layer.{Layer}
use Rattle.describe.specs.declared.Request.{Request}

-- a graph with the layer that was asked for
abbrev pub layered : Option Layer → Graph → Graph
layered None g = g
layered (Some l) g = reading l.bit l.mask g

-- a source without a fault, and its text
pub record Tells (columns : Option Columns) (g : Graph) (text : List ℕ) : Type 0 where
  pub no_fault : g.fault ≡ None
  pub is : text ≡ graph_text columns g

-- what the bytes tell, as a table or as a list of rules; a table alone has columns
abbrev pub graph_of : Form → List ℕ → Graph
graph_of Table b = table b
graph_of Rules b = rule_list b

abbrev pub columns_of : Form → List ℕ → Option Columns
columns_of Table b = Some (columns b)
columns_of Rules b = None

-- what is asked of the bytes
abbrev pub asked : Request → List ℕ → Graph
asked q b = layered q.layer (graph_of q.form b)

abbrev pub columns_asked : Request → List ℕ → Option Columns
columns_asked q b = columns_of q.form b

-- the fault of the source, or want of memory, and nothing else
abbrev pub Fails : Graph → Failure → Type 0
Fails g Usage = ⊥
Fails g (Stream e) = ⊥
Fails g Memory = Unit {0}
Fails g (Faulty f) = g.fault ≡ Some f
