-- The names of all functions of the language, and the number of a name.
use Rattle.std.specs.Prelude.{ℕ, ◌+◌, List, [], ◌∷◌, ◌++◌, length, map, codes, nat_eq, position, Option, Some, None, option_map}
use Rattle.std.specs.Cmp.Lexicographic.{pointwise}
use Rattle.pl_syntax.specs.declared.stmt.Function.{Function}

-- elementwise, sizes, making arrays, questions
abbrev pub array_names : List (List ℕ)
array_names =
    codes "abs" ∷ codes "sign" ∷ codes "mod" ∷ codes "rem" ∷ codes "xor" ∷ codes "min" ∷ codes "max" ∷ codes "sum" ∷ codes "prod" ∷ codes "idivide" ∷ codes "bitand" ∷ codes "bitor" ∷ codes "bitxor" ∷ codes "bitshift" ∷ codes "numel" ∷ codes "length" ∷ codes "isempty" ∷ codes "size" ∷ codes "isequal" ∷ codes "zeros" ∷ codes "ones" ∷ codes "true" ∷ codes "false" ∷ codes "eye" ∷ codes "int64" ∷ codes "logical" ∷ codes "char" ∷ codes "intmax" ∷ codes "intmin" ∷ codes "class" ∷ codes "ischar" ∷ codes "islogical" ∷ codes "isnumeric" ∷ codes "isscalar" ∷ codes "isvector" ∷ codes "strcmp" ∷ []

-- picking, ordering, laying out
abbrev pub layout_names : List (List ℕ)
layout_names =
    codes "find" ∷ codes "reshape" ∷ codes "repmat" ∷ codes "sort" ∷ codes "unique" ∷ codes "any" ∷ codes "all" ∷ codes "cumsum" ∷ codes "fliplr" ∷ codes "flipud" ∷ codes "nnz" ∷ []

-- texts and calls by value
abbrev pub text_names : List (List ℕ)
text_names =
    codes "disp" ∷ codes "fprintf" ∷ codes "sprintf" ∷ codes "error" ∷ codes "num2str" ∷ codes "mat2str" ∷ codes "feval" ∷ []

-- futures, queues, the pool
abbrev pub future_names : List (List ℕ)
future_names =
    codes "parfeval" ∷ codes "fetchOutputs" ∷ codes "fetchNext" ∷ codes "wait" ∷ codes "cancel" ∷ codes "parallel.pool.DataQueue" ∷ codes "parallel.pool.PollableDataQueue" ∷ codes "send" ∷ codes "afterEach" ∷ codes "poll" ∷ codes "parpool" ∷ codes "gcp" ∷ codes "delete" ∷ []

-- the functions of blocks, in both spellings
abbrev pub block_names : List (List ℕ)
block_names =
    codes "labindex" ∷ codes "numlabs" ∷ codes "labSend" ∷ codes "labReceive" ∷ codes "labSendReceive" ∷ codes "labBarrier" ∷ codes "labBroadcast" ∷ codes "gplus" ∷ codes "gcat" ∷ codes "gop" ∷ codes "spmdIndex" ∷ codes "spmdSize" ∷ codes "spmdSend" ∷ codes "spmdReceive" ∷ codes "spmdSendReceive" ∷ codes "spmdBarrier" ∷ codes "spmdBroadcast" ∷ codes "spmdPlus" ∷ codes "spmdCat" ∷ codes "spmdReduce" ∷ []

-- codistributed arrays
abbrev pub codistributed_names : List (List ℕ)
codistributed_names =
    codes "codistributor1d" ∷ codes "codistributor1d.unsetPartition" ∷ codes "codistributor2dbc" ∷ codes "codistributed" ∷ codes "codistributed.build" ∷ codes "codistributed.zeros" ∷ codes "codistributed.ones" ∷ codes "redistribute" ∷ codes "gather" ∷ codes "getLocalPart" ∷ codes "globalIndices" ∷ codes "getCodistributor" ∷ codes "iscodistributed" ∷ []

-- all of them, in the order of their numbers
unfoldable pub function_names : List (List ℕ)
function_names = array_names ++ layout_names ++ text_names ++ future_names ++ block_names ++ codistributed_names

-- the first place of a name
abbrev pub place_in : List (List ℕ) → List ℕ → Option ℕ
place_in names name = position (pointwise nat_eq name) names

-- the names of local functions
abbrev pub local_names : List Function → List (List ℕ)
local_names functions = map (λ f. f.name.text) functions

-- the texts of the extras that a program's table has, in the order of their numbers. An extra is no part of the language: the
-- world of a run answers it. A text is an operator's sign, a function's name, or `()` for an indexed read. None is built yet
unfoldable pub extra_names : List (List ℕ)
extra_names = []

-- the functions that a program can name: its own, those of the language, and the extras of a table
pub record Table : Type 0 where
  pub locals : List (List ℕ)
  pub extras : List (List ℕ)

abbrev pub behind : ℕ → Option ℕ → Option ℕ → Option ℕ
behind count (Some place) later = Some place
behind count None later = option_map (λ place. count + place) later

-- a local function's number is its place, those of the language are numbered on from there, and then the extras; an earlier one
-- hides a later one
abbrev pub number_of : Table → List ℕ → Option ℕ
number_of t name = behind (length t.locals) (place_in t.locals name) (behind (length function_names) (place_in function_names name) (place_in t.extras name))
