-- What a terminal does in the title of a function, and behind functions.
use Rattle.std.specs.Prelude.{◌≡◌, ℕ, Bool, true, false, if◌then◌else◌, Option, Some, None, Result, Ok, Err, List, [], ◌∷◌, ◌++◌}
use Rattle.std.specs.List.{list_any}
use Rattle.pl_base.specs.declared.memory.Or.{Or}
use Rattle.pl_base.specs.declared.memory.Or.TheVariants as or
use Rattle.pl_base.specs.declared.errors.Place.{Place}
use Rattle.pl_syntax.specs.declared.expr.Name.{Name}
use Rattle.pl_syntax.specs.declared.stmt.Function.{Function}
use Rattle.pl_grammar.specs.declared.fault.FaultKind.{FaultKind}
use Rattle.pl_grammar.specs.declared.fault.FaultKind.TheVariants.{FunctionTwice}
use Rattle.pl_grammar.specs.declared.terminal.Word.{Word}
use Rattle.pl_grammar.specs.declared.terminal.Word.TheVariants as w
use Rattle.pl_grammar.specs.declared.terminal.Keyword.TheVariants as k
use Rattle.pl_grammar.specs.Words.{same}
use Rattle.pl_frames.specs.declared.operand.Mark.{Mark}
use Rattle.pl_frames.specs.declared.stack.Top.{Top}
use Rattle.pl_frames.specs.declared.stack.Title.{Title}
use Rattle.pl_frames.specs.declared.stack.Root.TheVariants as root
use Rattle.pl_frames.specs.declared.state.Titling.{Titling}
use Rattle.pl_frames.specs.declared.state.Titling.TheVariants as titling
use Rattle.pl_frames.specs.declared.state.State.{State}
use Rattle.pl_frames.specs.declared.state.State.TheVariants as state
use Rattle.pl_steps.specs.Steps.{Step, refused, Gives, named}
use Rattle.pl_states.specs.Statements.{shows, site_of}

abbrev pub goes : Top → Titling → Step
goes t l = Ok (state.Titling t l)

-- a function of this name stands there
abbrev pub has_function : List ℕ → List Function → Bool
has_function text fs = list_any (λ f. same f.name.text text) fs

-- the fault of a name that stands twice, where the terminal goes on with the title
abbrev pub once : Bool → Step → Step
once twice (Ok st) = if twice then Err FunctionTwice else Ok st
once twice (Err kind) = Err kind

-- a step, and what it comes to if the name stands twice
abbrev pub Once : Bool → Result State (Or FaultKind) → Result State (Or FaultKind) → Type 0
Once twice (Ok st) r = Gives r (once twice (Ok st))
Once twice (Err e) r = r ≡ Err e

abbrev pub enter_function : Top → Title → Step
enter_function t l = Ok (state.Start (site_of (root.Function t l) [] []))

abbrev pub titled_by : Option Bool → Top → Title → Step
titled_by None t l = refused
titled_by (Some show) t l = enter_function t l

abbrev pub titled_end : Word → Top → Title → Step
titled_end word t l = titled_by (shows word) t l

abbrev pub title_of : List Name → Name → List (Option Name) → Title
title_of os n ps = record { name = n; params = ps; outs = os }

abbrev pub behind_title : Word → Top → List Name → Name → Step
behind_title w.Open t os n = goes t (titling.ParamsOf os n None)
behind_title word t os n = titled_end word t (title_of os n [])

abbrev pub behind_word : Word → Top → Name → Step
behind_word w.Equal t n = goes t (titling.Naming (n ∷ []))
behind_word word t n = once (has_function n.text t.functions) (behind_title word t [] n)

abbrev pub read_title : Word → Mark → Top → Step
read_title (w.Name n) m t = goes t (titling.Worded (named n m.place))
read_title w.OpenSquare m t = goes t (titling.OutsOf None)
read_title word m t = refused

abbrev pub with_out : Option (List Name) → Name → List Name
with_out None n = n ∷ []
with_out (Some ns) n = ns ++ n ∷ []

abbrev pub close_outs : Option (List Name) → Top → Step
close_outs None t = goes t (titling.OutsShut [])
close_outs (Some ns) t = refused

abbrev pub read_out : Word → Mark → Top → Option (List Name) → Step
read_out (w.Name n) m t os = goes t (titling.OutOf (with_out os (named n m.place)))
read_out w.CloseSquare m t os = close_outs os t
read_out word m t os = refused

abbrev pub behind_out : Word → Top → List Name → Step
behind_out w.Comma t os = goes t (titling.OutsOf (Some os))
behind_out w.CloseSquare t os = goes t (titling.OutsShut os)
behind_out word t os = refused

abbrev pub behind_outs_shut : Word → Top → List Name → Step
behind_outs_shut w.Equal t os = goes t (titling.Naming os)
behind_outs_shut word t os = refused

abbrev pub read_name : Word → Mark → Top → List Name → Step
read_name (w.Name n) m t os = once (has_function n t.functions) (goes t (titling.Entitled os (named n m.place)))
read_name word m t os = refused

abbrev pub with_param : Option (List (Option Name)) → Option Name → List (Option Name)
with_param None p = p ∷ []
with_param (Some ps) p = ps ++ p ∷ []

abbrev pub close_params : Top → List Name → Name → Option (List (Option Name)) → Step
close_params t os n None = goes t (titling.Titled (title_of os n []))
close_params t os n (Some ps) = refused

abbrev pub read_param : Word → Mark → Top → List Name → Name → Option (List (Option Name)) → Step
read_param (w.Name x) m t os n ps = goes t (titling.ParamOf os n (with_param ps (Some (named x m.place))))
read_param w.Not m t os n ps = goes t (titling.ParamOf os n (with_param ps None))
read_param w.Close m t os n ps = close_params t os n ps
read_param word m t os n ps = refused

abbrev pub behind_param : Word → Top → List Name → Name → List (Option Name) → Step
behind_param w.Comma t os n ps = goes t (titling.ParamsOf os n (Some ps))
behind_param w.Close t os n ps = goes t (titling.Titled (title_of os n ps))
behind_param word t os n ps = refused

unfoldable pub read_titling : Word → Mark → Top → Titling → Step
read_titling word m t titling.Begun = read_title word m t
read_titling word m t (titling.Worded n) = behind_word word t n
read_titling word m t (titling.OutsOf os) = read_out word m t os
read_titling word m t (titling.OutOf os) = behind_out word t os
read_titling word m t (titling.OutsShut os) = behind_outs_shut word t os
read_titling word m t (titling.Naming os) = read_name word m t os
read_titling word m t (titling.Entitled os n) = behind_title word t os n
read_titling word m t (titling.ParamsOf os n ps) = read_param word m t os n ps
read_titling word m t (titling.ParamOf os n ps) = behind_param word t os n ps
read_titling word m t (titling.Titled l) = titled_end word t l

abbrev pub function_by : Option Bool → Top → Step
function_by None t = refused
function_by (Some show) t = Ok (state.Between t)

abbrev pub behind_function : Word → Top → Step
behind_function (w.Key k.Function) t = goes t titling.Begun
behind_function word t = function_by (shows word) t
