-- The grammar: a derivation is data with a constructor for each rule, and keeps the marks of its terminals.
-- Lists go on at their end, so that what has been read is a derivation. What precedes the last operand of an
-- operator is a part of its own, and so is what precedes the last expression of a statement or a header.
use Rattle.std.specs.Prelude.{ℕ, ℤ, List}
use Rattle.pl_syntax.specs.declared.expr.Bin.{Bin}
use Rattle.pl_grammar.specs.declared.terminal.Keyword.{Keyword}
use Rattle.pl_grammar.specs.Words.{Mark, Named, Sign, Sep}

-- ---- expressions

-- a name, or names with dots between
pub data Head : Type 0 where
  alone : Named → Head
  dotted : Head → Mark → Named → Head

-- the signs of a power's right operand, the outermost first
pub data Signs : Type 0 where
  no_signs : Signs
  more_signs : Signs → Mark → Sign → Signs

-- what separates elements: a comma, or white space in square brackets
pub data Comma : Type 0 where
  written : Mark → Comma
  space : Comma

-- a comma that is ignored before the end of a row
pub data Trail : Type 0 where
  no_trail : Trail
  trail : Mark → Trail

mutual
  pub data Ex : Type 0 where
    number : Mark → ℤ → Ex
    chars : Mark → List ℕ → Ex
    bare : Callee → Ex
    -- ( list )
    call : Callee → Mark → Args → Mark → Ex
    -- . State
    state : Ex → Mark → Mark → Ex
    paren : Mark → Ex → Mark → Ex
    -- [ rows ], behind the last of them a break or not
    rows : Mark → Rows → Mark → Ex
    rows_to : Mark → Rows → Elements → Trail → Mark → Ex
    -- @ name
    func : Mark → Named → Ex
    -- the word `end`
    last : Mark → Ex
    under : Op → Ex → Ex
    transposed : Ex → Mark → Ex

  -- an operator with all but its last operand
  pub data Op : Type 0 where
    joined : Ex → Bin → Mark → Signs → Op
    signed : Mark → Sign → Op
    from : Ex → Mark → Op
    stepped : Ex → Mark → Ex → Mark → Op

  -- a name, or name { place }
  pub data Callee : Type 0 where
    head : Head → Callee
    braced : Named → Mark → Ex → Mark → Callee

  pub data Args : Type 0 where
    no_args : Args
    listed : Elements → Args

  pub data Elements : Type 0 where
    one : Item → Elements
    also : Elements → Comma → Item → Elements

  pub data Item : Type 0 where
    value : Ex → Item
    colon : Mark → Item

  -- rows up to a break
  pub data Rows : Type 0 where
    no_rows : Rows
    broken : Rows → Sep → Rows
    filled : Rows → Elements → Trail → Sep → Rows

-- ---- simple statements

pub data Tgt : Type 0 where
  entire : Named → Tgt
  indexed : Named → Mark → Args → Mark → Tgt
  in_braces : Named → Mark → Ex → Mark → Tgt

-- an output of a list: a target or `~`
pub data Output : Type 0 where
  to : Tgt → Output
  skip : Mark → Output

pub data Outputs : Type 0 where
  only : Output → Outputs
  beside : Outputs → Comma → Output → Outputs

-- what precedes the last expression of a statement: nothing, target =, or [ targets ] =
pub data Goal : Type 0 where
  shown : Goal
  into : Tgt → Mark → Goal
  spread : Mark → Outputs → Mark → Mark → Goal

-- ---- headers of compound statements

-- what precedes a header's expression: a keyword, or keyword name =
pub data Lead : Type 0 where
  test : Keyword → Mark → Lead
  each : Keyword → Mark → Named → Mark → Lead

-- the same where a parenthesis is open: ( name =, ( name = from , and spmd (
pub data Inner : Type 0 where
  each_in : Keyword → Mark → Mark → Named → Mark → Inner
  bound : Mark → Mark → Named → Mark → Ex → Mark → Inner
  workers : Mark → Mark → Inner

pub data Heading : Type 0 where
  upto : Lead → Ex → Heading
  shut : Inner → Ex → Mark → Heading
  no_value : Keyword → Mark → Heading

-- a part of a compound statement up to its block
pub data Part : Type 0 where
  headed : Heading → Sep → Part
  unheaded : Keyword → Mark → Part

-- ---- statements

mutual
  pub data Smt : Type 0 where
    simple : Goal → Ex → Smt
    -- name ( list ) = [ ]
    delete : Named → Mark → Args → Mark → Mark → Mark → Mark → Smt
    leave : Keyword → Mark → Smt
    -- parts, the last block, end
    compound : Opened → Block → Mark → Smt

  -- statements, each with its separator, and separators alone
  pub data Block : Type 0 where
    empty : Block
    blank : Block → Sep → Block
    statement : Block → Smt → Sep → Block

  -- a compound statement up to its last block
  pub data Opened : Type 0 where
    first : Part → Opened
    next : Opened → Block → Part → Opened

-- ---- functions and programs

-- a parameter: a name or `~`
pub data Param : Type 0 where
  taken : Named → Param
  ignored : Mark → Param

pub data Params : Type 0 where
  lone : Param → Params
  further : Params → Mark → Param → Params

pub data Listing : Type 0 where
  no_params : Listing
  params : Params → Listing

-- nothing, name =, or [ names ] =
pub data Outs : Type 0 where
  no_outs : Outs
  single : Named → Mark → Outs
  several : Mark → Listing → Mark → Mark → Outs

-- nothing, or ( params )
pub data Given : Type 0 where
  no_list : Given
  given : Mark → Listing → Mark → Given

-- function outs name params
pub data Title : Type 0 where
  title : Mark → Outs → Named → Given → Title

pub data Fun : Type 0 where
  fun : Title → Sep → Block → Mark → Fun

-- a script and the functions behind it, with separators between
pub data Top : Type 0 where
  script : Block → Top
  define : Top → Fun → Top
  spaced : Top → Sep → Top

-- a program; the last statement of a script without functions may lack its separator
pub data Prog : Type 0 where
  whole_of : Top → Prog
  unended : Block → Smt → Prog
