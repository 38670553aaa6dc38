-- Which child of a record is what: the places, counted from 0, of the children that the transform reads or changes by their meaning.
use Rattle.std.specs.Prelude.{ℕ}

-- `Ed`: an exported declaration
abbrev pub ed_declaration : ℕ
ed_declaration = 0

-- `Xd`: what is exported as default
abbrev pub xd_declaration : ℕ
xd_declaration = 0

-- `Xe`: an expression exported as default
abbrev pub xe_expression : ℕ
xe_expression = 0

-- `Fd`: a function declaration; an Fx has the same children
abbrev pub fd_name : ℕ
fd_name = 0

abbrev pub fd_function : ℕ
fd_function = 1

-- `Cd`: a class declaration; a Cx has the same children
abbrev pub cd_name : ℕ
cd_name = 0

abbrev pub cd_class : ℕ
cd_class = 1

-- `Vr`: a declarator
abbrev pub vr_pattern : ℕ
vr_pattern = 0

abbrev pub vr_init : ℕ
vr_init = 1

-- `Fu`: a function; its parameters follow
abbrev pub fu_type_params : ℕ
fu_type_params = 0

abbrev pub fu_return_type : ℕ
fu_return_type = 1

abbrev pub fu_body : ℕ
fu_body = 2

-- `Cl`: a class; its members follow
abbrev pub cl_type_params : ℕ
cl_type_params = 0

-- `Pa`: a parameter; a Pp has the same child
abbrev pub pa_pattern : ℕ
pa_pattern = 0

-- `Me`: a method
abbrev pub me_key : ℕ
me_key = 0

abbrev pub me_function : ℕ
me_function = 1

-- `Cp`: a class property
abbrev pub cp_key : ℕ
cp_key = 0

abbrev pub cp_type : ℕ
cp_type = 1

abbrev pub cp_value : ℕ
cp_value = 2

-- `Bd`: a name
abbrev pub bd_name : ℕ
bd_name = 0

abbrev pub bd_type : ℕ
bd_type = 1

-- `Pb`: an array pattern; a Po has the same child
abbrev pub pb_type : ℕ
pb_type = 0

-- `Ag`: a pattern with a default
abbrev pub ag_left : ℕ
ag_left = 0

abbrev pub ag_right : ℕ
ag_right = 1

-- `Pe`: an expression in the place of a pattern
abbrev pub pe_expression : ℕ
pe_expression = 0

-- `Kc`: a computed key
abbrev pub kc_expression : ℕ
kc_expression = 0

-- `Kv`: a property of an object literal
abbrev pub kv_key : ℕ
kv_key = 0

abbrev pub kv_value : ℕ
kv_value = 1

-- `Sh`: a shorthand property
abbrev pub sh_name : ℕ
sh_name = 0

-- `Aw`: an arrow; its parameters follow, and so they do in the Fu of a function expression, behind the body
abbrev pub aw_type_params : ℕ
aw_type_params = 0

abbrev pub aw_return_type : ℕ
aw_return_type = 1

-- `Mi`: a unary minus
abbrev pub mi_operand : ℕ
mi_operand = 0

-- `Ne`: a new expression
abbrev pub ne_class : ℕ
ne_class = 0

abbrev pub ne_type_arguments : ℕ
ne_type_arguments = 1

-- `Mb`: a member expression
abbrev pub mb_object : ℕ
mb_object = 0

abbrev pub mb_property : ℕ
mb_property = 1

-- `Oc`: an optional chain
abbrev pub oc_member : ℕ
oc_member = 0

-- `As`: an assertion; a Ts and a Ta have the same children
abbrev pub as_type : ℕ
as_type = 1

-- `Tl`: a literal type
abbrev pub tl_literal : ℕ
tl_literal = 0

-- `Rf`: a reference
abbrev pub rf_name : ℕ
rf_name = 0
